pub mod Laws
pub mod Lengths
pub mod Loop
pub mod Ordered
pub mod Spelling
pub mod Passing
