pub mod OneEnd
pub mod AmPair
pub mod UmPair
pub mod SrbPair
