pub mod Replies
pub mod Due
