-- What a walk lists, and what its loop leaves.
pub mod Walk
pub mod inner
