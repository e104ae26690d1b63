pub mod Queries
pub mod PortLists
