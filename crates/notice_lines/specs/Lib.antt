pub mod Moments
pub mod Envelope
pub mod Notifications
pub mod Reading
