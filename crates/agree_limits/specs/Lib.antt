-- A planned image with its descriptor, and a file that is loaded from it.
pub mod Loaded
