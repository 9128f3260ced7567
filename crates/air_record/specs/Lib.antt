pub mod Text
pub mod Outcomes
pub mod Cells
pub mod Submissions
