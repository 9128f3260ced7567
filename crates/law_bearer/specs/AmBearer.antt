pub mod Deeds
pub mod Calls
pub mod Sending
pub mod Lives
