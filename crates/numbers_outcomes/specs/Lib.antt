-- What the C calls answer, as numbers.
pub mod Outcomes
pub mod Deliveries
pub mod Trackers
pub mod Listings
