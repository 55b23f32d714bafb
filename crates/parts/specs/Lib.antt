pub mod Sizes
pub mod Precedences
pub mod Parts
pub mod Places
pub mod Answers
