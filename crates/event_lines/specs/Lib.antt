pub mod Header
pub mod Event
pub mod Text
pub mod Spelling
