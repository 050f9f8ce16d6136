pub mod Origin
pub mod Standing
pub mod Stands
pub mod Lives
pub mod Called
