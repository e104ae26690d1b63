pub mod Accepted
pub mod Endings
