-- The laws.
pub mod HeaderLaws
pub mod Refused
