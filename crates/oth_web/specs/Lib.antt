pub mod Room
pub mod Scorings
