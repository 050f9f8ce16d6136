pub mod Calling
pub mod Fitting
pub mod PassLaws
mod SharedWords
