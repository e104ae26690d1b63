pub mod Copies
pub mod IfPlace
pub mod ListCells
pub mod Stores
pub mod Zeros
