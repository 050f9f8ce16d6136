pub mod Filters
pub mod Inside
pub mod Lawful
pub mod Operations
