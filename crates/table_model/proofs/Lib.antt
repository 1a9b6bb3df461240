-- Laws of tables: where entries stand, what bytes they are, that they are inside, whole and apart, how a buffer is written, when placing is refused, 7
-- by the size alone, and a small table by computing.
pub mod Places
pub mod Bytes
pub mod Geometry
pub mod Writing
pub mod Placing
pub mod Far
pub mod Cases
