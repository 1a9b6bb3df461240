-- A table that the strict check accepts as a tree of entries, and what a lookup in it answers.
pub mod Shape
pub mod Found
