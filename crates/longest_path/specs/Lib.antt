-- Paths of a skeleton and its centre. Assumes nothing.
pub mod Paths
pub mod Ways
pub mod Inner
pub mod Peel
pub mod Centre
pub mod Run
pub mod Farthest
pub mod Carry
pub mod Turning
pub mod Heights
pub mod Balance
pub mod Theorems
pub mod Middles
pub mod document
