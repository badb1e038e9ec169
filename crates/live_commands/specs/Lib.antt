pub mod Ends
pub mod Gateway
pub mod Controller
pub mod Lines
pub mod Client
