pub mod Answers
pub mod Insides
