-- The laws of the loops over a number's bytes.
pub mod Words
