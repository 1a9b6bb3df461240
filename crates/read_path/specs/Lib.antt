-- What a path leads to.
pub mod Path
pub mod inner
