pub mod Allowed
pub mod Telling
pub mod Rounds
pub mod Beginning
pub mod Putting
pub mod Reports
pub mod Texts
