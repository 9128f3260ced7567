pub mod Passing
pub mod Finishing
