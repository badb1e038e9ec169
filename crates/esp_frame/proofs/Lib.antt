pub mod Frames
pub mod Opens
pub mod Trailers
