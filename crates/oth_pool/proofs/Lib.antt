pub mod AtOnce
pub mod Floors
pub mod Workings
