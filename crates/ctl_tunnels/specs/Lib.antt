pub mod Lives
pub mod Steps
pub mod Halves
pub mod Rings
pub mod Tunnels
