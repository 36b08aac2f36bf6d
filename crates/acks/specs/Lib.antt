-- What the contracts of `acks_marks`, `acks_tracker`, `acks_reports`, `acks_expand` and `acks_naming` cite, in the words of the rules.
pub mod Window
pub mod History
pub mod Tracking
pub mod Runs
pub mod Reporting
pub mod Expanding
pub mod Naming
pub mod Recorded
pub mod AckBlocks
