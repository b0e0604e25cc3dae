pub mod Stages
pub mod Answers
pub mod Calls
pub mod Changes
pub mod Grant
