pub mod Loops
pub mod Named
pub mod Decides
pub mod Answers
pub mod Gaps
