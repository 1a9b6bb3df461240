-- Laws of the volume descriptor: told one-to-one, read back, what depends on the stamp; computed cases; and what the proofs of the code are made of.
pub mod Told
pub mod Laws
pub mod Stamp
pub mod Cases
pub mod Same
pub mod Reading
pub mod Writing
