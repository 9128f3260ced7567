pub mod Counting
pub mod Sender
pub mod Ends
pub mod Calm
pub mod Walking
pub mod Ttis
pub mod Drains
pub mod Groups
