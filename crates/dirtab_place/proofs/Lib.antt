-- Turns of the loops, what an order in preorder comes to, its size, and that answers are told one-to-one.
pub mod Turns
pub mod Taking
pub mod Along
pub mod Lengths
pub mod Told
pub mod Named
