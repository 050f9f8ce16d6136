pub mod Clean
pub mod Finals
pub mod Told
