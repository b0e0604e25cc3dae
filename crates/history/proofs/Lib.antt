pub mod Learn
pub mod Alone
pub mod Demand
pub mod Past
pub mod Zero
