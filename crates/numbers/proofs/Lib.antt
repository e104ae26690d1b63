pub mod FromFn
pub mod Floats
