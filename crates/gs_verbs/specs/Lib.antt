pub mod Finding
pub mod Reporting
pub mod Cleaning
pub mod Planning
pub mod Laws
