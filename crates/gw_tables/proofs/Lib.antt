pub mod Lists
pub mod SoundLemmas
