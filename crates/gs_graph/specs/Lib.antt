pub mod Numbers
pub mod Edges
pub mod Counted
pub mod Graph
