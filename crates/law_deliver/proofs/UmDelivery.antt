pub mod Sending
pub mod Hearing
pub mod Living
pub mod Ending
pub mod Through
pub mod Laws
