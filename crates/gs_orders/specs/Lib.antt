pub mod Steps
pub mod Says
pub mod Emitted
