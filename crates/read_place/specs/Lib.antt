-- What stands at a place of a table.
pub mod Place
pub mod inner
