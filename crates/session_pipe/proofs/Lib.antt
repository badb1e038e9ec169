pub mod Octets
pub mod Names
pub mod Counts
pub mod Moves
