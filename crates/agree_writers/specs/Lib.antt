-- What is supposed of an output that a writer left, and of a list that is to be written.
pub mod Wrote
