pub mod Sheet
pub mod Computing
pub mod Places
pub mod Contents
pub mod Faults
