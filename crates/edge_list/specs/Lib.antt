-- A partner's edge list: its refusals, its table of neighbours, and what an accepted list is. Assumes nothing.
pub mod Table
pub mod Prefix
pub mod Joined
pub mod Parts
pub mod Limited
pub mod Count
pub mod Joins
pub mod Bridge
pub mod Tables
pub mod Letters
pub mod Theorems
pub mod document
