pub mod Enough
pub mod Free
pub mod Idle
pub mod Rooms
pub mod Ticks
