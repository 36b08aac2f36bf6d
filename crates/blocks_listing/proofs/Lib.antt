-- The laws that the crates above cite.
pub mod Walk
pub mod ListingIsReadings
pub mod Refused
