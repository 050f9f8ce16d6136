pub mod Keeping
pub mod Statements
pub mod Staying
