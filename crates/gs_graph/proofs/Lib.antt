pub mod Lists
pub mod Opened
pub mod Adding
pub mod Numbering
pub mod Pushing
pub mod Places
pub mod Due
