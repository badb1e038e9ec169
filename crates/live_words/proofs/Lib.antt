pub mod AppLemmas
pub mod MatchLemmas
pub mod CommandLemmas
