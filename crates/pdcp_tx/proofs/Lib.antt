pub mod PduSteps
pub mod Offers
pub mod Head
pub mod Order
