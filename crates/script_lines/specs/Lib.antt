pub mod Session
pub mod Text
pub mod Act
pub mod Spelling
