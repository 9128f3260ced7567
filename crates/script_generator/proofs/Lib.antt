pub mod Making
mod Repeating
pub mod Stepping
pub mod Texts
pub mod Saying
