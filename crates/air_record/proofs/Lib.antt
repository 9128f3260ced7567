pub mod Digits
pub mod Gets
