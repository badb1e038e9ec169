pub mod Halves
pub mod Install
pub mod Kept
pub mod Columns
pub mod Stored
