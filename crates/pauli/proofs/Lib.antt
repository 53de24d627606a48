pub mod Sums
pub mod Cases
pub mod LetterLaws
pub mod RowLaws
pub mod Listed
