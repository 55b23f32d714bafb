-- The search of one problem as values.
pub mod Results
pub mod Frontiers
