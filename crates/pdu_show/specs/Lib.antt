pub mod Kinds
pub mod Show
pub mod Entries
pub mod Decoding
pub mod Carried
