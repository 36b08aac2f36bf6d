-- The laws that the crates above cite.
pub mod Tables
pub mod Types
pub mod Lengths
pub mod Soundness
pub mod Orders
pub mod Ends
pub mod Laws
pub mod ReadExtents
pub mod Rows
pub mod Loops
pub mod Answers
pub mod Takes
pub mod RoundTrip
pub mod Named
pub mod NumberLaws
pub mod Refused
