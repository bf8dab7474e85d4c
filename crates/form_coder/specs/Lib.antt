-- What the functions of coding promise each other, and what is known of the pairs looked at. Assumes nothing.
pub mod Raised
pub mod Numbered
pub mod Sums
pub mod Examples
pub mod document
