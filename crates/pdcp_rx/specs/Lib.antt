pub mod Entity
pub mod Heard
pub mod Held
pub mod Laws
pub mod Opening
pub mod State
