pub mod Words
pub mod Rows
