pub mod Run
pub mod Send
pub mod Air
pub mod Search
pub mod Loss
pub mod Read
pub mod Which
