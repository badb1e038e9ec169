pub mod Reply
pub mod Order
