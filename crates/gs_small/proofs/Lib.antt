pub mod Asking
pub mod Programs
pub mod Sizes
pub mod Small
