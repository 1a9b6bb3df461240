-- Laws of an entry as it is given: its answers are told one-to-one, the scope's cases, and what the proofs of the code are made of.
pub mod Told
pub mod Cases
pub mod Bad
pub mod Stored
pub mod Storable
