-- The three demands, each as one record: Demand1, Demand2, Demand3; document 02's #103: Finish. Functions has what the open functions promise.
pub mod Functions
pub mod Demand1
pub mod Demand2
pub mod Demand3
pub mod Finish
