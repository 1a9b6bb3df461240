-- What adding answers, and what it leaves in the columns.
pub mod Add
pub mod inner
