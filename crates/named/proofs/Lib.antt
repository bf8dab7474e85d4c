-- Laws that the proofs of several functions cite. Assumes nothing.
mod Naming
mod Spelling
mod Decoding
mod Lining
mod Classing
mod Judging
