mod Examples
pub mod Stays
pub mod Again
pub mod Several
pub mod Rendering
pub mod Digits
pub mod LineBytes
