-- What planning an image answers, and what it leaves of what was lent.
pub mod Shares
pub mod Plan
pub mod Image
pub mod Columns
pub mod inner
