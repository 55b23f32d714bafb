pub mod Reading
pub mod Formats
pub mod Fields
