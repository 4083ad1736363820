pub mod MoveLists
pub mod RootSearch
pub mod Few
pub mod Roots
pub mod Scored
pub mod Surest
