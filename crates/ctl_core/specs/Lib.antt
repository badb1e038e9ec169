pub mod Core
pub mod Drafts
pub mod Changes
pub mod Pass
pub mod Step
pub mod Room
pub mod Idle
