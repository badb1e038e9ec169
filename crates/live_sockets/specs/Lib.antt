pub mod Faults
pub mod Peers
