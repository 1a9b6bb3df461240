-- What placing along an order of numbers leaves and answers.
pub mod inner
