pub mod Lives
pub mod Bounds
pub mod Receiving
pub mod Again
pub mod Given
pub mod Places
