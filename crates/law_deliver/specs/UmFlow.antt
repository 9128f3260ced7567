pub mod Pair
pub mod Calls
pub mod Handing
pub mod Runs
pub mod Lives
pub mod Flows
