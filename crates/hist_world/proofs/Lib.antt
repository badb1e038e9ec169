pub mod Followers
pub mod Lets
pub mod Arrives
pub mod Handles
pub mod Told
pub mod MayOrders
pub mod Parts
pub mod Controls
pub mod Owns
pub mod Runs
pub mod Fresh
pub mod Owners
pub mod Room
pub mod Made
pub mod Unrefused
pub mod ListPlaces
pub mod InForce
pub mod Commanded
pub mod Goes
pub mod Shown
pub mod ShownAcquire
mod ShownLists
mod ShownWire
pub mod ShownSetup
pub mod ShownDatagrams
pub mod ShownPacket
mod ShownChanged
mod ShownForged
mod ShownRekey
mod ShownKeys
mod ShownLimit
mod ShownCut
mod ShownRestart
mod ShownAbandoned
mod ShownClock
mod ShownCommands
pub mod Ends
