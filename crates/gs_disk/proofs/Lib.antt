pub mod Bytes
pub mod Filling
pub mod Images
pub mod Kept
pub mod Reading
pub mod Undoing
pub mod Updates
