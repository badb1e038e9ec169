pub mod Replying
pub mod Turns
pub mod Calls
