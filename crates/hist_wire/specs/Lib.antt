pub mod Dates
pub mod Wire
pub mod Replies
pub mod Histories
