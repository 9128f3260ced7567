pub mod Protection
