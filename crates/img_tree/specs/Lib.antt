-- What the steps of checking an image's directories take of one another.
pub mod inner
