pub mod Bitwise
pub mod Columns
pub mod Loop
