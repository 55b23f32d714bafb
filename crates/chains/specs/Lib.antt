pub mod Totals
pub mod NewLinks
pub mod Links
pub mod Cuts
