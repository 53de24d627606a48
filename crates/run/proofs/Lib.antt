pub mod Sheets
pub mod Cleanness
pub mod ReadBack
pub mod Numbered
