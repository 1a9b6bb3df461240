-- What the limits loader answers, and when.
pub mod Limits
pub mod Outcome
