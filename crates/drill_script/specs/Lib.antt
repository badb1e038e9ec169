pub mod Drawn
pub mod Script
pub mod Tallies
