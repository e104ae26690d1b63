pub mod Apart
pub mod Fills
