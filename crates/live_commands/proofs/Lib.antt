pub mod Stated
pub mod StatedPeers
pub mod StatedCommand
pub mod GatewayEnds
pub mod ControllerEnds
pub mod Gaining
pub mod ClientEnds
