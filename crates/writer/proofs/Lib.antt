pub mod Rows
pub mod Lags
pub mod Sheets
pub mod Refusing
