pub mod Supplies
pub mod Giving
pub mod RightTakes
pub mod Laws
pub mod Lending
