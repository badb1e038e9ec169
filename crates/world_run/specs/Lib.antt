pub mod Taken
pub mod Packets
pub mod Sessions
pub mod Kept
