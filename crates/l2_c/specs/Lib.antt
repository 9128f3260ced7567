pub mod Answers
pub mod Mac
pub mod Pdcp
pub mod Rlc
