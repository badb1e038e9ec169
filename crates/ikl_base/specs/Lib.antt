pub mod Outside
pub mod Address
pub mod Answers
pub mod Room
pub mod Reasons
