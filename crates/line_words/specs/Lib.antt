pub mod Parts
pub mod Words
pub mod Entry
pub mod Limits
pub mod Half
pub mod Text
pub mod Spelling
