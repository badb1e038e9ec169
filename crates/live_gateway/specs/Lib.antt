pub mod Carried
pub mod Causes
pub mod Past
pub mod Found
pub mod Stands
pub mod History
