pub mod Items
pub mod Grammar
pub mod Subheaders
pub mod Refusals
pub mod Reading
pub mod Views
pub mod Writing
pub mod Laws
