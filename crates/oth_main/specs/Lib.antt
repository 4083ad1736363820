pub mod Addition
pub mod BookFile
pub mod Joined
pub mod Messages
