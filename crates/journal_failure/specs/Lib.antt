pub mod RightFailure
pub mod Checking
pub mod Laws
