-- A list of entries, the tree that it grows into, and what columns hold on the way.
pub mod Listing
pub mod Grow
pub mod inner
