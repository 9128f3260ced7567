pub mod Entries
pub mod Terminals
pub mod Cells
pub mod Alone
pub mod Main
pub mod Acting
pub mod Rules
