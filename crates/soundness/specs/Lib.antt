pub mod Found
pub mod Place
pub mod Row
pub mod Soundness
