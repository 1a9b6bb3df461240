-- What names and their order are.
pub mod Order
pub mod inner
