-- What the contracts of `lines` cite.
pub mod Fields
pub mod Digits
pub mod Reading
pub mod Counting
