pub mod Lines
pub mod LogLine
