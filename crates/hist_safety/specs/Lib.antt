pub mod Orders
pub mod Carried
pub mod Clear
pub mod Law
pub mod Safe
pub mod Kept
pub mod Ended
