pub mod Numbered
pub mod Fronts
pub mod Views
pub mod Queue
