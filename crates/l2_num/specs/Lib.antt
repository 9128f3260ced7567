pub mod Numbers
pub mod Counts
pub mod Least
pub mod Timers
pub mod Ascending
