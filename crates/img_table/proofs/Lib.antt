-- What the proofs of sizing one table stand on.
pub mod Sizes
pub mod Fitting
pub mod Treed
pub mod Outcomes
pub mod Measuring
