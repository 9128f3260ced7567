pub mod Given
pub mod Waiting
