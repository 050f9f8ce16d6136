pub mod ByteClasses
pub mod Classes
pub mod Lexing
pub mod OneReading
pub mod OneString
pub mod Pieces
pub mod Strings
pub mod Texts
