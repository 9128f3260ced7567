pub mod RightDelivery
pub mod DeliveryChecking
pub mod DeliveryLaws
