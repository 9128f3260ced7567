pub mod RightStatus
pub mod StatusChecking
pub mod StatusLaws
