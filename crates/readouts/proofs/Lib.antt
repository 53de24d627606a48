pub mod Weighing
pub mod Given
pub mod Accepted
pub mod Strings
pub mod Listed
