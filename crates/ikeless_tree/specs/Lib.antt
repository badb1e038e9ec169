pub mod Check
pub mod Half
pub mod Words
pub mod Typed
