pub mod ChannelLemmas
pub mod ShareLemmas
