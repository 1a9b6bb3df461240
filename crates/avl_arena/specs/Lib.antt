-- What the arena test computes, and what an arena is that passes it.
pub mod Test
pub mod HeldTree
pub mod inner
