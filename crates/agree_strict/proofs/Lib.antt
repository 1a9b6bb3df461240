-- Every table that is written passes the strict check.
pub mod Passes
pub mod ListPasses
