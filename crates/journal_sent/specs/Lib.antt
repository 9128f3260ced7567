pub mod Marks
pub mod SentPdus
pub mod LayoutBits
pub mod SentFlows
pub mod Sending
pub mod Judging
pub mod RightSent
pub mod Laws
