pub mod Sums
pub mod Losing
pub mod Walk
pub mod Running
pub mod Laws
pub mod Leaving
pub mod Queue
