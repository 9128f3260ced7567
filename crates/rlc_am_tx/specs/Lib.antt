pub mod Machine
pub mod Need
pub mod Entity
