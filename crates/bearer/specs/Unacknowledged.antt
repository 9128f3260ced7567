pub mod State
pub mod Taking
pub mod Hearing
pub mod Lives
