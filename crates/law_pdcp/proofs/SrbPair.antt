pub mod Opens
pub mod Receives
pub mod Sending
pub mod Written
pub mod Laws
pub mod Beginning
