pub mod Apps
pub mod Values
pub mod Gateway
pub mod Controller
pub mod Client
