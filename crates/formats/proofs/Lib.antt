pub mod Run
pub mod Laws
pub mod Maps
pub mod Spans
pub mod Stores
pub mod Entries
