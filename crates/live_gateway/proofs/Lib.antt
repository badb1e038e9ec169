pub mod Making
pub mod Telling
pub mod Receipts
pub mod Written
pub mod Standing
pub mod Sessions
pub mod Turning
pub mod Runs
