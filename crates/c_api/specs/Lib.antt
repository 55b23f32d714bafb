pub mod Calls
pub mod Notes
pub mod Faults
pub mod Plans
pub mod Lists
pub mod Finishes
