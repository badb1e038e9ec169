pub mod Parts
pub mod Numbers
pub mod HexText
pub mod Addresses
pub mod Prefixes
pub mod Reading
