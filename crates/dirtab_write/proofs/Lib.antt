-- What the proofs of the code are made of, and the bridge from columns to a table.
pub mod Steps
pub mod Turns
pub mod Bridge
