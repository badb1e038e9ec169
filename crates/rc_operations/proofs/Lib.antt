pub mod Sound
pub mod Pointers
pub mod Refusals
pub mod Requests
pub mod Telling
