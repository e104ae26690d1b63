pub mod Finite
pub mod ValueAnswers
pub mod Wholes
pub mod Plans
