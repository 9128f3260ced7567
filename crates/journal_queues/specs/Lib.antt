pub mod Leaving
pub mod QueueChecking
pub mod QueueLaws
