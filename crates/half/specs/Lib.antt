pub mod Half
pub mod Tied
