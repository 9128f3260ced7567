pub mod UmReceiving
pub mod UmLossesTold
pub mod UmSending
pub mod UmWriting
pub mod UmTimers
pub mod UmLived
pub mod UmReading
pub mod UmGathered
