pub mod Lifetime
pub mod Calls
