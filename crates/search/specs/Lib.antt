pub mod Results
pub mod Calls
