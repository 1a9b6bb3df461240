-- What is said of a plan: its tables, its runs of sectors, the lists that are written, and the ways through it.
pub mod Planned
pub mod Runs
pub mod InTurn
pub mod Image
