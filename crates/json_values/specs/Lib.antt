pub mod Faults
pub mod Shapes
pub mod Members
pub mod Leaves
pub mod Json
pub mod Written
pub mod Tokens
