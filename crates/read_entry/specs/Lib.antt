-- What reading one entry finds, which links are absent, and the part of a window that is a table's.
pub mod Entry
pub mod Links
pub mod inner
