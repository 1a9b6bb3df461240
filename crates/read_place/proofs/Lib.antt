-- Laws of what stands at a place.
--     Told      what is told of an answer is one-to-one
--     Cases     answers computed
pub mod Told
pub mod Cases
