-- What writing a whole list answers.
pub mod Whole
pub mod Scratch
pub mod inner
