pub mod Lines
pub mod Magnitudes
pub mod ValueLines
