pub mod Whats
pub mod Delivery
