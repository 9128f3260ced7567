pub mod ListenLemmas
pub mod HistoryLemmas
