pub mod View
pub mod Operations
