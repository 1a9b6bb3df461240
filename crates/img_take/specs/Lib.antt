-- What the steps of taking sectors take of one another.
pub mod inner
