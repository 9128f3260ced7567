pub mod Told
pub mod Ends
pub mod Checking
pub mod Laws
