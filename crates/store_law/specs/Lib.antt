pub mod Calls
pub mod Back
