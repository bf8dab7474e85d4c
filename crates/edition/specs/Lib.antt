-- Editions, and refusal 22. Assumes nothing.
pub mod Limit
pub mod Laws
pub mod document
