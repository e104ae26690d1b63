pub mod Examples
pub mod RowTrip
pub mod RowWriting
pub mod WideNumbers
