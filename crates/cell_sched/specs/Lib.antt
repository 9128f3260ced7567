pub mod Wishes
pub mod Grants
pub mod GrantLaws
