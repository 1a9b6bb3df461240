-- Laws of what a path leads to.
--     Told       what is told of an answer is one-to-one
--     Rules      answers under a rule's number
--     Numbers    which numbers are refused with
--     Cases      answers computed
--     Slashes    which slashes of a path matter
--     Parts      the parts of a path, one after the other
pub mod Told
pub mod Rules
pub mod Numbers
pub mod Cases
pub mod Parts
pub mod Places
pub mod Slashes
