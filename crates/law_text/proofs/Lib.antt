pub mod Cuts
pub mod Parts
pub mod Clear
pub mod LensBack
pub mod NacksBack
pub mod Events
pub mod Records
pub mod Texts
