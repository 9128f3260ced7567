pub mod Pairs
pub mod Readings
pub mod Taking
pub mod Walks
pub mod Living
pub mod Edges
pub mod Inside
mod Records
pub mod Exact
