pub mod NumberSteps
pub mod LedgerSteps
pub mod SlotSteps
pub mod CutSteps
pub mod CutFits
pub mod RingSteps
pub mod WaitingSteps
