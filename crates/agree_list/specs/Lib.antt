-- What adding in turn is.
pub mod InTurn
