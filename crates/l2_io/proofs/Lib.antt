pub mod Pieces
pub mod Feeds
pub mod Reading
pub mod Written
