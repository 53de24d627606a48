pub mod Texts
pub mod Planes
