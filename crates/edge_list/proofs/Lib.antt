-- Laws that the proofs of several functions cite. Assumes nothing.
mod Tests
mod Heads
mod Room
mod Allowing
mod Neighbours
