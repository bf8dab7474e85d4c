-- The answers of the C functions. Assumes nothing.
pub mod One
pub mod OneReported
pub mod OneNamed
