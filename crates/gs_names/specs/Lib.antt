pub mod Writes
pub mod Table
