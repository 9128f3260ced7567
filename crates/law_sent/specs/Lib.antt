pub mod Senders
pub mod Channels
pub mod Flows
pub mod UmSenders
