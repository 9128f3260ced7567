pub mod Staying
pub mod Calling
pub mod Silent
pub mod Dealing
