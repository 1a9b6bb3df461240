-- Names by their role.
pub mod Roles
