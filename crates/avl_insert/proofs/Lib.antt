-- Laws that the functions of this crate cite.
mod FirstStep
