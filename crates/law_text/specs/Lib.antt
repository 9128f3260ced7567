pub mod Back
pub mod Lens
pub mod Lines
pub mod Records
