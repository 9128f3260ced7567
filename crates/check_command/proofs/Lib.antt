pub mod Counting
pub mod Texts
pub mod Turning
pub mod Closing
pub mod Rows
pub mod Refusing
pub mod Final
