pub mod Channels
pub mod Failures
pub mod Hearing
pub mod Records
pub mod Ends
mod OneSender
pub mod Exact
