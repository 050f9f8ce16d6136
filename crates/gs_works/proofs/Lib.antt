pub mod Standing
pub mod Listing
pub mod Choosing
pub mod Stranding
pub mod Losing
