pub mod Answers
pub mod Laws
pub mod Readers
pub mod Writers
