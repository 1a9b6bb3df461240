-- The ways out of the functions, laws of serialising, small arenas by computing, and that answers are told one-to-one.
pub mod Listed
pub mod Ways
pub mod Told
pub mod Laws
pub mod Cases
