pub mod Calls
pub mod Digests
pub mod Insides
pub mod Texts
