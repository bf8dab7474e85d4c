-- Refusals, once, for every call of every crate. Assumes nothing.
pub mod Laws
pub mod Stricter
pub mod Lowest
pub mod Bounded
pub mod Lists
pub mod Giving
pub mod Both
pub mod Checks
pub mod document
