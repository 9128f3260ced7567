pub mod LateSteps
pub mod Offered
pub mod Fitting
pub mod OwedSteps
