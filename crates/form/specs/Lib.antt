-- The forms of a code: N-tuple and centred. Assumes nothing.
pub mod One
pub mod Root
pub mod Carried
pub mod Labelled
pub mod Rewritten
pub mod Forms
pub mod Accepted
pub mod Theorems
pub mod Computed
pub mod document
