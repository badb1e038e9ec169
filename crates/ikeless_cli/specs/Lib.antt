pub mod Script
pub mod Run
pub mod Reader
pub mod Words
pub mod Exit
pub mod Drill
