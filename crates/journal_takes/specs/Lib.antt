pub mod TakeEvents
pub mod Takeable
pub mod FlowTakes
pub mod Laws
