pub mod EachLemmas
pub mod PartText
pub mod EntryText
pub mod LineText
pub mod LimitsText
pub mod HalfNames
pub mod HalfText
pub mod TakenSteps
