pub mod Heard
pub mod Pipes
