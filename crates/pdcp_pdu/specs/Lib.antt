pub mod Grammar
pub mod Kinds
pub mod Laws
pub mod Pdus
pub mod Reading
pub mod Refusals
