pub mod Wholes
pub mod Bearers
