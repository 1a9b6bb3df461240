-- What a lookup answers, step by step and along links, which links the two rules take for absent, and what these answer.
pub mod Steps
pub mod Along
pub mod Sets
pub mod ByRule
pub mod Cases
