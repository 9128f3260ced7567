mod Lanes
mod Written
pub mod Blocks
pub mod PairLaws
pub mod DecodeLaws
mod Values
