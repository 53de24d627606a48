pub mod Splitting
pub mod Printing
pub mod Sheets
pub mod Ended
pub mod Fits
