pub mod Nodes
pub mod Worlds
pub mod Steps
pub mod Conditions
