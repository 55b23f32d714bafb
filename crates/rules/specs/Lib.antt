pub mod Worked
pub mod Mentions
