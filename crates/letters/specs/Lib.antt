-- Letters that name atoms, one for each vertex. Assumes nothing.
pub mod Named
pub mod Naming
pub mod Lettered
pub mod document
