-- The ways from entry to entry along links.
pub mod Along
