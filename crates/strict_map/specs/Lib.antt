-- What is asked of a map of units, and how an entry is marked on it.
pub mod inner
