pub mod Lives
pub mod Delivery
pub mod Ends
pub mod Drained
pub mod Arrival
