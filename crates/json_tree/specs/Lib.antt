pub mod SelectorRead
pub mod PolicyRead
pub mod SadEntryRead
pub mod SadEntryWritten
