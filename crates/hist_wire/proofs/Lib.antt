pub mod Dates
pub mod Replied
pub mod Histories
pub mod Shows
pub mod Shown
pub mod NoticeText
