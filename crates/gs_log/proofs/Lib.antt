pub mod Append
pub mod Blocks
pub mod Create
pub mod Records
pub mod Kept
