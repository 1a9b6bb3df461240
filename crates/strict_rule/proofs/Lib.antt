-- `Told`: answers are told one-to-one. `Nearest`: the nearest bounds suffice, over `Bounds` (what the bounds of a visit
-- say). `Accepted` and `Accepts`: the check accepts exactly the tables of the rule, and the walk lists the same; over
-- `Steps` (the definition step by step), `Way` and `Course` (the steps of a walk and of a check that give a list).
-- `Cases`: worked tables.
pub mod Told
pub mod Clear
pub mod Bounds
pub mod Steps
pub mod Nearest
pub mod Way
pub mod Course
pub mod Accepted
pub mod Accepts
pub mod Cases
