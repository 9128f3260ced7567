pub mod State
pub mod Status
pub mod Machine
pub mod Entity
