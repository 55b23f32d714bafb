pub mod Record
pub mod Refusing
