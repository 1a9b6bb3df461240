-- Writing a list at once, and adding its entries in turn, are the same.
pub mod Alike
pub mod InTurn
pub mod Same
