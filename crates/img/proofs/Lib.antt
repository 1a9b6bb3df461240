-- Laws of the steps of planning.
pub mod Handing
pub mod Planning
pub mod Cutting
pub mod Left
