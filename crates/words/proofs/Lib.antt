pub mod BitLaws
pub mod Bytes
