pub mod Among
pub mod Windows
pub mod Words
pub mod Blocks
pub mod Held
