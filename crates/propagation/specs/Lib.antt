pub mod Propagated
pub mod Events
