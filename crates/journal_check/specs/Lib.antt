pub mod Grouped
pub mod States
pub mod Checks
pub mod Judging
pub mod Lending
pub mod Soundness
pub mod Checked
pub mod Steps
