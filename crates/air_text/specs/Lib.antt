pub mod Words
pub mod Fields
pub mod Options
pub mod Reading
pub mod Ranges
pub mod Groups
pub mod Spoken
