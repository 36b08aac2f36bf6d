-- What the contracts of `wire` cite: parts of a list, numbers in bytes, and a function's values in a row.
pub mod Parts
pub mod Numbers
pub mod Series
