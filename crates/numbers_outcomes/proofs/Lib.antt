-- The laws.
pub mod DeliveryLaws
pub mod TrackerLaws
pub mod Refused
