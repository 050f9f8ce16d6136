pub mod Noting
pub mod Reading
pub mod Joining
pub mod Keeping
pub mod Causing
pub mod TaskFiles
