pub mod Arrivals
pub mod Block
pub mod Headers
pub mod Parts
pub mod Events
pub mod Stands
pub mod Puts
pub mod Lists
