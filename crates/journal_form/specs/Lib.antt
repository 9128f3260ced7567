pub mod Lines
pub mod Canonical
pub mod Tests
pub mod SameRecords
pub mod Checking
pub mod Laws
