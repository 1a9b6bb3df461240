-- What an arena that passed the check is, small arenas, and the ways out of the check.
pub mod Ways
pub mod Fine
pub mod Passed
pub mod Cases
