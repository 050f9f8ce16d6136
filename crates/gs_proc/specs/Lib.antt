pub mod Ends
pub mod Line
pub mod Number
pub mod Outs
pub mod Places
pub mod ProcLink
pub mod Tasks
pub mod Words
