pub mod EventText
pub mod SpelledEvent
