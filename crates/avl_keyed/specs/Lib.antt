-- The key of a name, and what a search by keys takes.
pub mod inner
