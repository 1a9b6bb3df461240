-- Laws of growing a tree, and what the proofs of the code are made of.
pub mod Checked
pub mod Columns
pub mod Growth
pub mod Hung
pub mod Prefix
pub mod Rightmost
pub mod Turn
