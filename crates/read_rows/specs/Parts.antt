pub mod Loading
pub mod Texts
