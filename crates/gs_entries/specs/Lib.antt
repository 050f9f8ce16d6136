pub mod Actions
pub mod Entries
pub mod Gate
pub mod Gives
pub mod Notes
pub mod Order
