pub mod UnderWay
pub mod Sessions
pub mod Past
