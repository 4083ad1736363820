pub mod Known
pub mod Scored
pub mod Seats
pub mod Values
