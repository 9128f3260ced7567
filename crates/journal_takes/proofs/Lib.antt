pub mod CountSets
pub mod CountFronts
pub mod CountEvents
pub mod SduLists
pub mod Offers
pub mod TakesTold
