pub mod Checkpoints
pub mod Seeing
pub mod SearchState
