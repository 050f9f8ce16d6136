pub mod Works
pub mod Losing
pub mod Laws
