pub mod Halting
pub mod Finishing
