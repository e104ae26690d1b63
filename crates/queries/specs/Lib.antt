pub mod FormatAnswer
pub mod Options
pub mod PortAnswer
pub mod PortsAnswer
