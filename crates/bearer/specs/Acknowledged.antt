pub mod State
pub mod Reports
pub mod Taking
pub mod Hearing
pub mod Timing
pub mod Sums
pub mod Lives
