mod Orders
pub mod Sharing
