-- The laws of `lines`.
pub mod Scans
pub mod Filling
pub mod Hex
pub mod Decimal
pub mod Moving
pub mod Reading
