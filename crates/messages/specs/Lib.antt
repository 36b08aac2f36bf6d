-- What the contracts of `messages` cite.
pub mod Received
pub mod Delivery
pub mod Answers
pub mod OfStore
