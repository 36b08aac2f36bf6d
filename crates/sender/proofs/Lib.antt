-- The laws that the crates above cite.
pub mod Lists
pub mod Books
pub mod Calls
pub mod Histories
pub mod Channel
pub mod Widths
pub mod Packets
pub mod Counts
pub mod Places
pub mod Answers
pub mod Lent
pub mod GivenOut
pub mod Settling
pub mod Shown
pub mod InPlace
pub mod Refused
pub mod Readings
