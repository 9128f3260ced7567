pub mod Walks
pub mod Compared
pub mod Queues
pub mod Exact
