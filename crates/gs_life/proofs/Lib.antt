pub mod Entries
pub mod Images
pub mod Gating
pub mod Closing
pub mod Loading
pub mod Living
pub mod Calls
pub mod Recording
