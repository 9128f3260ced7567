pub mod Lives
pub mod Delivery
