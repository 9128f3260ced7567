pub mod Transparent
pub mod Sender
pub mod Joined
pub mod Window
pub mod Receiver
