-- What the steps of measuring and clearing what is lent say.
pub mod inner
