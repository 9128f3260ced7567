pub mod SendSteps
