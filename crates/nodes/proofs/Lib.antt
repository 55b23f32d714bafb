pub mod Loops
pub mod Choosing
pub mod BranchRemovals
pub mod Branches
