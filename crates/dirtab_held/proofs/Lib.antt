-- What listing a held tree takes and leaves, and what the arena test gives.
pub mod Rooted
pub mod FromArena
