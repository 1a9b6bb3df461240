-- The laws of names by role, and cases.
pub mod Storable
pub mod Roles
pub mod Cases
