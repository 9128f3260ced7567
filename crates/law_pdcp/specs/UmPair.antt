pub mod Flow
pub mod Reading
pub mod Delivery
