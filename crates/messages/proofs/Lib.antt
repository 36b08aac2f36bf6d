-- The laws.
pub mod Arrivals
pub mod Begins
pub mod Deliveries
pub mod OfStore
pub mod Pieces
pub mod Refused
