pub mod Cost
pub mod Facts
