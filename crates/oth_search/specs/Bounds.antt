pub mod Answer
pub mod Entry
pub mod Full
pub mod Interval
pub mod Replies
pub mod Squares
