pub mod Processes
pub mod Clearing
pub mod Bringing
pub mod Hearing
pub mod Expiring
