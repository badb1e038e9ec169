pub mod CountLemmas
pub mod CallLemmas
