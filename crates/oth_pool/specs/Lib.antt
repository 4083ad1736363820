pub mod AtOnce
pub mod Working
pub mod Solving
