pub mod Beginning
pub mod Flow
pub mod Delivery
