pub mod Lending
pub mod Stores
