-- A file that was planned is loaded, whenever the date allows.
--     file_loaded       whatever links stand on the way, and in whichever form the descriptor has the root's size
pub mod Loaded
