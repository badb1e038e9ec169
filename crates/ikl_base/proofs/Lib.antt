pub mod AddressLemmas
pub mod PrefixLemmas
pub mod ReasonLemmas
pub mod FrontLemmas
pub mod Gaining
