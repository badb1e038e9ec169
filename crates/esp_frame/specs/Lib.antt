pub mod Esp
pub mod Key
pub mod Laws
pub mod Open
