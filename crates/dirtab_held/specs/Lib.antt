-- What it is for columns to hold a tree's entries, and for a list to have its preorder.
pub mod inner
