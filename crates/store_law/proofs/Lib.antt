pub mod Apart
pub mod OneCall
pub mod Calls
pub mod Readings
pub mod Shown
