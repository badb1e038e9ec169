pub mod DrawnLemmas
pub mod Counts
pub mod Transcripts
