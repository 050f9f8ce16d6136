pub mod Words
pub mod Usage
pub mod Given
pub mod Laws
