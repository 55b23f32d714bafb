pub mod Valid
pub mod Values
pub mod Meaning
pub mod Sheets
pub mod Answers
pub mod Reads
pub mod Validated
