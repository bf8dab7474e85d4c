-- Laws that the proofs of several functions cite. Assumes nothing.
mod Found
mod Atoms
