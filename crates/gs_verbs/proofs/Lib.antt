pub mod Cleans
pub mod Entries
pub mod Missing
pub mod Plans
pub mod Stores
pub mod Through
