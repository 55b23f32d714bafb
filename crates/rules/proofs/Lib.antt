pub mod Handling
pub mod Triangles
pub mod OnAxes
pub mod Cycles
pub mod Mentions
