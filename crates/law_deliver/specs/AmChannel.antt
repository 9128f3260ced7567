pub mod Lives
pub mod Delivery
pub mod Drained
pub mod Arrival
pub mod Leaving
