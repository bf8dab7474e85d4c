-- Laws that the proofs of several functions cite. Assumes nothing.
mod Search
mod Writing
mod Mixing
mod Behind
mod Summing
mod Filling
