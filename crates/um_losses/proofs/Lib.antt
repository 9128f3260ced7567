pub mod TagLemmas
pub mod Processes
pub mod Again
pub mod Alike
pub mod LastTag
pub mod Long
pub mod Told
