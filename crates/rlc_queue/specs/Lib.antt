pub mod Waiting
pub mod NewPdu
pub mod Laws
