pub mod Numbers
pub mod Fuels
pub mod Uses
pub mod Ends
pub mod Versions
pub mod Stuck
pub mod Depends
