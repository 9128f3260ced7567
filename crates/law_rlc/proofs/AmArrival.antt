pub mod Places
pub mod Kept
pub mod Coming
pub mod Telling
pub mod Flat
pub mod Laws
