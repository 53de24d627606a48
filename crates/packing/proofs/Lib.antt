pub mod Groups
pub mod Views
pub mod Determined
