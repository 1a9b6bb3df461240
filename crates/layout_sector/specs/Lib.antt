-- How sectors are handed out.
pub mod Counter
