pub mod Told
pub mod Steps
pub mod Orderly
pub mod Faultless
