-- What writing a table answers, and the bytes that it leaves.
pub mod Serialise
pub mod inner
