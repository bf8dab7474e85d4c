-- Renumberings as maps. Assumes nothing.
pub mod Parts
pub mod Lists
pub mod Accepted
pub mod Handing
pub mod Exactly
pub mod Theorems
pub mod Kept
pub mod Examples
pub mod document
