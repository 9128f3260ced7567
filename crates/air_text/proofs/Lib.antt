pub mod Numbers
pub mod Octets
pub mod Configs
pub mod Splits
pub mod LinesBack
pub mod Firsts
