-- Entries in columns, and what writing them leaves.
pub mod inner
