-- The laws that the crates above cite.
pub mod Tests
pub mod Parts
pub mod Same
pub mod Numbers
pub mod Copying
pub mod Moving
pub mod Lent
pub mod Slices
pub mod Zeros
pub mod Series
