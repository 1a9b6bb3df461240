-- What the returns of the loader's functions are made of.
pub mod Answers
