-- What the numbering by code is held to, by the table. Assumes nothing.
pub mod Ordered
