pub mod OpenPart
pub mod Values
pub mod LogBlocks
