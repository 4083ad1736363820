pub mod Lendings
pub mod Truths
