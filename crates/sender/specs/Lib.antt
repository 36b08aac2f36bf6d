-- What the sender's list means, in the words of the request; and as bytes that a caller lends.
pub mod Sizes
pub mod Sender
pub mod History
pub mod Channel
pub mod Recorded
pub mod Outcomes
pub mod Packets
pub mod Settling
pub mod Readings
