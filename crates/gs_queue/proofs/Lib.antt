pub mod Rising
pub mod Places
pub mod Knowing
pub mod Leading
pub mod Entering
pub mod Leaving
pub mod Growing
pub mod Picking
