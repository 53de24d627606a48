pub mod Ran
