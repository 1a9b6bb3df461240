-- Laws of what a lookup answers.
--     Told     what is told of an answer is one-to-one
--     Cases    answers computed, Loops: answers 25
--     Rules    answers under a rule's number
--     Numbers  which numbers are refused with
--     Laws     what refusal 25 and a count mean; over Chains, which are of any step, and Pigeonhole
pub mod Told
pub mod Rules
pub mod Cases
pub mod Pigeonhole
pub mod Chains
pub mod Laws
pub mod Numbers
pub mod Loops
pub mod Moved
