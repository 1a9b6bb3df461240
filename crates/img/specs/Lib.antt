-- What the code of planning cites of itself alone.
pub mod inner
