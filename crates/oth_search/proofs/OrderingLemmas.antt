pub mod KeyLemmas
pub mod Orders
