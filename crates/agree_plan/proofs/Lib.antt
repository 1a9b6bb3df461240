-- WHAT IS PROVED OF A PLAN that is given (specs/ has the words).
--     Tables      table_planned, free_is: every table has the planned size and can be written from the sector where the one before ended
--     Sectors     sectors_planned, root_planned: the planned sectors are those of the tables
--     Follows     runs_follow, runs_apart, free-counts, runs_planned: all runs of sectors follow one another, from 33 to the next free sector
--     Fills       table_fills, table_run: each table's bytes fill a run of the plan
--     NeverFive   never_5: planning never answers 5
--     Writes      table_writes, table_left: the lists of entries, written in turn, answer the planned sizes and sectors
-- AND OF A WINDOW in which the tables stand at their planned sectors.
--     Agrees      table_agrees, table_passes: every table is listed and found as it was written, and passes the strict check
--     Found       path_found: a path to a planned entry finds it, under rule one unless a link of 255 stands on the way, and then 22; under rule two always.
--                 path_finds_by: of every set of absent links
--     Only        path_only, path_only_by: no path finds anything else. path_one_then_two: what is found under rule one is found the same under rule two
--     Cases       a request that meets all that is supposed, computed; and one with an entry in two shares
pub mod Grew
pub mod Down
mod Up
pub mod Tables
mod Lists
mod Named
pub mod Sectors
pub mod Follows
pub mod NeverFive
pub mod Writes
pub mod Agrees
pub mod Fills
mod Paths
pub mod Found
pub mod Only
pub mod Cases
