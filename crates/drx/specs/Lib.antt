pub mod Within
pub mod Drx
pub mod DrxHistory
