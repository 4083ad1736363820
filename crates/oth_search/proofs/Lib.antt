pub mod BoundsLemmas
pub mod NwsLemmas
pub mod OrderingLemmas
pub mod PvsLemmas
pub mod RootLemmas
