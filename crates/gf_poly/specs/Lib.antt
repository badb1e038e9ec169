pub mod Poly
pub mod Laws
