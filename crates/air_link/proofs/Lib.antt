pub mod Paying
pub mod Carrying
