pub mod Bytes
pub mod Lines
pub mod Events
pub mod Taking
pub mod Going
pub mod Ends
pub mod Whole
pub mod Drilling
