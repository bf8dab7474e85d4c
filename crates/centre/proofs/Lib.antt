-- Laws that the proofs of several functions cite. Assumes nothing.
mod Rows
mod Found
mod Visits
mod Walked
mod Halves
mod Twice
