pub mod CutLemmas
pub mod GatherLemmas
pub mod ReplyLemmas
pub mod SolverLemmas
pub mod GameLemmas
pub mod EndLemmas
