-- The limits of document 01. Assumes nothing.
pub mod Width
pub mod Atoms
pub mod document
