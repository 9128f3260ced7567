pub mod Accounted
pub mod Laws
pub mod Histories
