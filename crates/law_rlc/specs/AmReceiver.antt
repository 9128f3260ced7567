pub mod Run
pub mod Bound
pub mod Stream
pub mod Status
pub mod Due
pub mod Finish
