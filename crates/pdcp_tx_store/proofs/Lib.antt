pub mod AgainSteps
pub mod GivenSteps
pub mod WaitingSums
