pub mod Configs
pub mod Sides
pub mod Lcids
