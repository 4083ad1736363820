pub mod Bytes
pub mod Enclosing
pub mod Entries
pub mod Fulls
pub mod KindLemmas
pub mod Replies
pub mod SquareSets
