pub mod CountsCome
pub mod LifeEvents
pub mod FlowLives
pub mod Laws
