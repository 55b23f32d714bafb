pub mod Pending
pub mod Working
pub mod Settling
