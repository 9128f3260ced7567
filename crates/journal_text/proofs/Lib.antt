pub mod Cuts
pub mod Numbers
pub mod Octets
pub mod Steps
pub mod Words
pub mod Commas
pub mod Plain
pub mod Whole
pub mod OwnWords
pub mod OwnFields
pub mod OwnLines
pub mod Many
mod Parts
