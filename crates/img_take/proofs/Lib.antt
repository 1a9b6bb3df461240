-- Laws that going forward over an image's directories goes by, and that its answers are told one-to-one.
pub mod Trees
pub mod Counting
pub mod Steps
pub mod Along
pub mod Turns
pub mod Told
