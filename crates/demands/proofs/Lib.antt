-- The three demands: demand1, demand2, demand3; the earliest finish: finish_request.
pub mod Functions
pub mod Demand1
pub mod Demand2
pub mod Demand3
pub mod Finish
