pub mod Lengths
pub mod Bytes
pub mod Checkpoints
