pub mod Openings
pub mod Lengths
pub mod Bisection
pub mod Tries
pub mod Claim
