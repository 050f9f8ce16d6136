pub mod Copies
pub mod Fitting
pub mod Removing
pub mod Setting
