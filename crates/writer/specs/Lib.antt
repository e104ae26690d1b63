pub mod Judged
pub mod Open
pub mod Slots
pub mod Writing
