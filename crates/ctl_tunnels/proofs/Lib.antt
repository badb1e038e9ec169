pub mod HalfNames
pub mod Keys
pub mod Marks
