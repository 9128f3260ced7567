pub mod Ends
pub mod Taking
pub mod Hearing
pub mod Discarding
pub mod Lives
pub mod Submitting
pub mod Telling
pub mod Shares
