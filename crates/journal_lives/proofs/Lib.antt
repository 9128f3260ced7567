pub mod CountSets
pub mod LifeSteps
pub mod LivesTold
