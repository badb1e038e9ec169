pub mod NoEntries
pub mod Octets
pub mod OneLine
