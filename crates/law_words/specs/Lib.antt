pub mod Lists
pub mod Sequences
pub mod Stretches
pub mod Passing
pub mod Arrivals
pub mod BearerOrder
