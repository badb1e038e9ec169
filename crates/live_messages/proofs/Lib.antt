pub mod Feeds
pub mod Holding
