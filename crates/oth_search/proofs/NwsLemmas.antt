pub mod LastBounds
pub mod Lasts
