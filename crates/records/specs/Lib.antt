pub mod Record
pub mod Reading
