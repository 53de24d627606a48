pub mod Sums
pub mod Letters
pub mod Rows
pub mod Texts
