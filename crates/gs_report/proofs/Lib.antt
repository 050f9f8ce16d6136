pub mod Fitting
pub mod Making
pub mod Sizes
pub mod Telling
