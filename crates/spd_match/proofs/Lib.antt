pub mod BitsLemmas
pub mod KeptLemmas
