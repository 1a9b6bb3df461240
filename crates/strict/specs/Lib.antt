-- What the strict check's code cites of itself alone.
pub mod inner
