-- What the contracts of `header` cite: the types, the unmasking, reading and writing; and what holds of both together.
pub mod Kinds
pub mod Unmasking
pub mod Reading
pub mod Writing
pub mod RoundTrip
