pub mod Children
pub mod Keys
