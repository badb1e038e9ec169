pub mod WindowLemmas
pub mod ListLemmas
pub mod PlaceLemmas
pub mod ColumnLemmas
pub mod StoredLemmas
