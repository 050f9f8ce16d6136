pub mod Failures
pub mod Calm
