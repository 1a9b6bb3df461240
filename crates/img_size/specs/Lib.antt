-- What the steps of sizing an image's tables take of one another.
pub mod inner
