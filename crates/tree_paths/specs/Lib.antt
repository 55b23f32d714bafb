-- Checkpoints and the paths in them, and what a look at a path shows.
pub mod Checkpoints
pub mod Looks
pub mod Paths
pub mod States
