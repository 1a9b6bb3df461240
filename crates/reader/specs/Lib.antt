-- What the reader's functions make of it, and what is said of going through a table with it.
pub mod Reader
pub mod Through
