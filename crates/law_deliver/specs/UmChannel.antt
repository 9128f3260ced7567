pub mod Pairs
pub mod Delivery
