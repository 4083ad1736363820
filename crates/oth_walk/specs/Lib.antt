pub mod Lending
pub mod MoveBounds
