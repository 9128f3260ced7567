pub mod RepeatLemmas
pub mod HistoryLemmas
