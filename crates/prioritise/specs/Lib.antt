pub mod Channels
pub mod Shares
pub mod Levels
pub mod ShareLaws
