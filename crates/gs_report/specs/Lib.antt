pub mod Pieces
pub mod Generator
pub mod Report
pub mod Laws
