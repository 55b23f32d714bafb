pub mod Choice
pub mod Starts
pub mod Nodes
