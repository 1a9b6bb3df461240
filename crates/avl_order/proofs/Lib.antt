-- What the stack of preorder holds.
pub mod Stack
