-- What every answer is told as, how a contract names lent memory, and where an offset of a region stands.
pub mod Told
pub mod Lent
pub mod Region
