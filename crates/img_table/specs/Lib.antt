-- What the steps of sizing one table take of one another.
pub mod inner
