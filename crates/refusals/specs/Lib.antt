-- What the contracts of every crate cite of refusals.
pub mod Numbers
