-- What is claimed, a file for each group of statements.
pub mod Answers
pub mod Rules
pub mod Found
pub mod Image
pub mod Reading
pub mod Accepted
pub mod Dated
pub mod Loaded
pub mod Determined
pub mod Starred
