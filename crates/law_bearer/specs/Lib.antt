pub mod AnyBearer
pub mod AmBearer
