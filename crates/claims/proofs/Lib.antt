-- The statements of specs/ hold: each by a citation. And what they suppose can be met.
pub mod Answers
pub mod Rules
pub mod Found
pub mod Image
pub mod Reading
pub mod Accepted
pub mod Dated
pub mod Loaded
pub mod Determined
pub mod Starred
pub mod Instances
