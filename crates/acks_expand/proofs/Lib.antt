-- The laws that the functions' proofs cite.
pub mod Front
pub mod Written
