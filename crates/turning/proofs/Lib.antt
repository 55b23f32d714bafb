pub mod Ten
pub mod Counts
pub mod Calls
pub mod Problems
pub mod Marks
