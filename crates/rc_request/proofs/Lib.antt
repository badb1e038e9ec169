pub mod KeyLemmas
pub mod AskLemmas
