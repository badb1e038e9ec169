pub mod Holds
pub mod Brings
