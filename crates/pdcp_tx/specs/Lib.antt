pub mod Pdus
pub mod State
pub mod Entity
pub mod Runs
