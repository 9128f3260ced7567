pub mod UmReading
pub mod Pairing
pub mod EdgeFlow
pub mod EdgeChecking
pub mod RightEdge
pub mod EdgeLaws
