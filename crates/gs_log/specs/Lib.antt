pub mod Fits
pub mod Grammar
pub mod Holding
pub mod Names
pub mod OneList
pub mod Kept
pub mod Told
