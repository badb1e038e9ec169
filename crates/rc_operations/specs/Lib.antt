pub mod Operations
pub mod Replies
