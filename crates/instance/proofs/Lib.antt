pub mod Arrays
pub mod Readers
pub mod Sheets
pub mod RoundTrips
pub mod Readings
pub mod Positions
pub mod Ranges
