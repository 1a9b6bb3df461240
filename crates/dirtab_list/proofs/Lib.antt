-- What the proofs of writing a whole list are made of.
pub mod Told
pub mod Cases
pub mod Grew
pub mod Ends
pub mod Room
