-- What the check and the clearance answer.
pub mod Axes
pub mod Parts
pub mod Check
pub mod Clearance
