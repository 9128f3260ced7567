pub mod Feeds
pub mod Cutting
pub mod Known
pub mod LinesFields
pub mod Machines
pub mod Put
