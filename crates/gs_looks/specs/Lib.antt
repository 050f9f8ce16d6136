pub mod Looked
pub mod Judgement
