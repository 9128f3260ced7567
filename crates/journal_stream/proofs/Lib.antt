pub mod SentTold
