pub mod Gated
pub mod Picked
