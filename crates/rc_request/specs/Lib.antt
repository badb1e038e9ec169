pub mod Asks
pub mod Paths
pub mod Queries
pub mod Operations
pub mod Requests
