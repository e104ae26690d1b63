pub mod Printed
pub mod Reading
