pub mod Journals
pub mod Generating
