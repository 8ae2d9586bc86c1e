pub mod Answers
pub mod Glyphs
pub mod Starts
