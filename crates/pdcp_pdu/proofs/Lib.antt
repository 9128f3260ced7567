pub mod UserAccepts
pub mod UserFound
pub mod UserRefusals
pub mod SrbLaws
pub mod Told
