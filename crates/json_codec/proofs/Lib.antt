pub mod JsonText
pub mod FlatCommand
pub mod BodyLaws
pub mod CommandLaws
pub mod CommandAgain
pub mod WrittenBodies
pub mod WritableCommand
pub mod CommandTokens
