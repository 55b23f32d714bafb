pub mod Refusing
pub mod Records
