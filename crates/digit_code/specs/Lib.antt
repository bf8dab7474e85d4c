-- Rooted digit codes: what they are, and what is refused. Assumes nothing.
pub mod Ends
pub mod Counting
pub mod Parts
pub mod Siblings
pub mod Ordered
pub mod Within
pub mod Search
pub mod Two
pub mod Stack
pub mod Right
pub mod Editions
pub mod Compare
pub mod Comparing
pub mod Examples
pub mod document
pub mod Digits
