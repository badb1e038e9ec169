pub mod Outcome
pub mod Change
pub mod Looks
pub mod Outbound
pub mod Inbound
pub mod Opened
