pub mod Errors
pub mod Replies
pub mod Lists
pub mod Messages
pub mod Laws
