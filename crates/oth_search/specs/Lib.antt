pub mod Bounds
pub mod Nws
pub mod Ordering
pub mod Root
