pub mod Blocks
pub mod Endings
pub mod Moving
pub mod Reached
pub mod Records
