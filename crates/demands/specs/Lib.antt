pub mod Statement
pub mod Checks
pub mod Instance
pub mod Start
pub mod Steps
pub mod Formed
pub mod ZeroRule
