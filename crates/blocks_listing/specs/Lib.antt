-- What the contracts of `blocks_listing` cite.
pub mod Answers
pub mod Listing
pub mod Claims
