pub mod Refusals
pub mod ChangesLemmas
pub mod Shown
