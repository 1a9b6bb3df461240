-- What a lookup answers, and what is said of the chain that it follows.
pub mod Lookup
pub mod Chain
pub mod inner
