pub mod WordLemmas
pub mod LaneLemmas
pub mod TableLemmas
pub mod CipherLemmas
pub mod StreamLemmas
pub mod CodeLemmas
pub mod FrontLemmas
