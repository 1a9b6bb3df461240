-- What an arena holds, and when it is one.
pub mod Arena
pub mod Lent
