pub mod NumberLemmas
pub mod LeastLemmas
pub mod TimerLemmas
