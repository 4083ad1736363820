pub mod AdditionLemmas
pub mod ApartLemmas
pub mod FileLemmas
pub mod JoinedLemmas
