pub mod UmPair
pub mod AmReceiver
pub mod AmSender
pub mod AmPair
pub mod AmArrival
