pub mod ActLine
pub mod SessionActs
pub mod ActText
pub mod SpelledAct
pub mod SpelledSession
pub mod SpelledText
pub mod TextLines
