pub mod Life
pub mod Delivery
pub mod Losses
pub mod Lives
pub mod Arrival
