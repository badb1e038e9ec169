pub mod HeadEnd
pub mod Heads
pub mod Looks
pub mod Feeding
pub mod Places
pub mod Parts
pub mod Stages
pub mod Written
