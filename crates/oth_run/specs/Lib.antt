pub mod Faulty
pub mod Gathered
pub mod Halfway
pub mod Line
pub mod Reply
pub mod Report
pub mod Run
