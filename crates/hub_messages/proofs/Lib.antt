pub mod Runs
pub mod FixedText
pub mod Pairs
pub mod SignedRule
