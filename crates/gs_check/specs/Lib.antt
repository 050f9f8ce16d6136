pub mod Faults
pub mod Conversions
pub mod Passing
pub mod Passes
pub mod Laws
