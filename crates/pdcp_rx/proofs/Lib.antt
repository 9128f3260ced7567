pub mod BitmapLemmas
pub mod EndLemmas
pub mod HeldLemmas
pub mod LawLemmas
pub mod ReadLemmas
