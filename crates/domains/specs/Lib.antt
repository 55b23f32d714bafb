pub mod Bits
pub mod Rows
pub mod Queue
pub mod Narrowed
