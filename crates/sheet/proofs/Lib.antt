pub mod Laws
pub mod Valid
pub mod Longest
pub mod Examples
pub mod Faults
