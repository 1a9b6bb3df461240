-- What the strict check answers, and which tables it is meant to accept.
pub mod Strict
pub mod Accepts
pub mod inner
