pub mod Openings
pub mod Receives
pub mod Choice
pub mod Sound
pub mod Sending
pub mod Hearing
pub mod Laws
pub mod Submitted
