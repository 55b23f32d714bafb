pub mod Bytes
pub mod CheckpointBytes
