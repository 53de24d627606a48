pub mod Texts
pub mod Places
pub mod Stacks
pub mod Slices
pub mod Placing
pub mod Loads
