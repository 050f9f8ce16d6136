pub mod Digits
pub mod Gives
pub mod Lines
pub mod Numbers
pub mod TaskLists
pub mod Waits
pub mod WordLists
