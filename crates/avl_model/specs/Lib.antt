-- The tree of node numbers and insertion on it; what it is for columns to hold a tree.
pub mod Tree
pub mod Laws
pub mod Names
pub mod Rep
pub mod Lists
pub mod Lent
pub mod Seek
pub mod Columns
pub mod Rust
pub mod Order
pub mod inner
