pub mod Sender
pub mod Bearers
pub mod Ends
pub mod Groups
