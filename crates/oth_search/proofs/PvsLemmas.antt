pub mod Withins
