mod Cases
pub mod Digits
pub mod LineLemmas
pub mod Sorting
pub mod Turned
pub mod WordLemmas
