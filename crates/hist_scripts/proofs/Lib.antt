pub mod Addresses
pub mod HeaderRead
pub mod EventRead
