pub mod Texts
pub mod Laws
pub mod Readings
pub mod Runs
