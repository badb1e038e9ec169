pub mod Past
pub mod Gateways
pub mod Sessions
