pub mod OctetEvents
pub mod SentOctets
pub mod Laws
