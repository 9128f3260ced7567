pub mod Flow
pub mod Expected
pub mod Reading
pub mod Between
