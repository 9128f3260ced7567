pub mod Cutting
pub mod Parts
pub mod Nothing
pub mod Turning
pub mod Parting
pub mod Gathering
pub mod Rows
pub mod Final
