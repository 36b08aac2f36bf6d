-- What the contracts of the crates over blocks cite.
pub mod Layout
pub mod Table
pub mod Packed
pub mod Names
pub mod Outcomes
pub mod Extent
pub mod Sound
pub mod Reading
pub mod Writing
pub mod Numbers
pub mod Claims
