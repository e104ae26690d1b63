pub mod Encoding
pub mod Judging
pub mod Cases
pub mod Walk
pub mod Whole
pub mod Rests
pub mod Sizes
pub mod Copying
