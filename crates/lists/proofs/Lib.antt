pub mod Rows
pub mod Counted
pub mod Lags
pub mod Valid
