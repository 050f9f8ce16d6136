pub mod Spelled
pub mod Signs
pub mod Laws
