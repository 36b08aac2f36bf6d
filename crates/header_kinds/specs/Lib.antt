-- What the contracts of `header_kinds` cite.
pub mod Types
