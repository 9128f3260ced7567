pub mod SendLemmas
pub mod ReceiveLemmas
