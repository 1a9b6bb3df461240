-- Laws of the definitions of planning.
pub mod Every
pub mod Rule
pub mod Trees
pub mod Sizes
pub mod Passed
pub mod Takings
pub mod ByKind
pub mod Cases
pub mod Told
pub mod Plans
pub mod Orders
