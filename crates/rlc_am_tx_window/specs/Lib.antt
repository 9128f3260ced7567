pub mod Cut
pub mod Numbers
pub mod Sent
pub mod Written
pub mod Ledger
pub mod Window
