pub mod Sound
pub mod Openings
pub mod PairCuts
pub mod Roots
pub mod Layouts
pub mod Lags
pub mod Fitting
