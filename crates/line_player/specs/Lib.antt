pub mod Lines
pub mod Journal
pub mod Streams
pub mod Plays
pub mod Playing
pub mod Answers
