pub mod Rests
pub mod Widths
