pub mod Layout
pub mod Openings
