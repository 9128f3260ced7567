pub mod Sending
pub mod Receiving
pub mod SendHistory
pub mod ReceiveHistory
