-- Masks: the laws of the mask, for the crates above. State and Bits serve this crate's own proofs.
pub mod Bits
pub mod Masks
pub mod State
