pub mod BlockAnswer
pub mod Combined
pub mod Judged
pub mod LogLine
pub mod OfferAnswer
