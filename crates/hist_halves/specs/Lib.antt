pub mod Sealed
pub mod Halves
