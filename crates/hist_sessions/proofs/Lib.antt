pub mod Tells
pub mod Hears
pub mod Keeps
pub mod Numbers
pub mod Pipes
pub mod Shown
