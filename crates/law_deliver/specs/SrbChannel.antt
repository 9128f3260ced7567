pub mod Running
pub mod Delivery
