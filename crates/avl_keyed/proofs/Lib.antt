-- What keys tell of the order of names, and a turn of the search.
pub mod ByKey
pub mod Turn
