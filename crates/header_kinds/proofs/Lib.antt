-- What the results of the functions say of a type.
pub mod Types
