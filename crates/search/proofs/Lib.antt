pub mod Series
pub mod Claim
