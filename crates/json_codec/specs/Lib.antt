pub mod CommandWritten
pub mod CommandRead
pub mod Bodies
