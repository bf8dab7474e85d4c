-- Named lines, which carry an atom letter for each digit: a second line format beside plain lines. First the format; which rows judge digits and
-- letters; that it is sound, with both sentences of demand 3 for lists of named lines; the form as the code finds it, and reading; demand 3
-- of what a caller sees; then the examples. Assumes nothing.
pub mod NamedTable
pub mod NamedSound
pub mod NamedForm
pub mod Finding
pub mod Standing
pub mod NamedText
pub mod NamedWriting
pub mod NamedDemanded
pub mod Examples
pub mod document
