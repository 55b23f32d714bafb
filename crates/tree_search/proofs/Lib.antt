-- Laws of the search of one problem.
pub mod Budget
pub mod Positions
pub mod Outcomes
pub mod Stepping
pub mod Complete
pub mod Frontiers
