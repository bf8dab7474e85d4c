-- The listing. First what is to be believed: what it is, and what a call promises that writes it in pieces; then the theorems, the
-- example, the laws behind them, and what the functions on the way promise. Assumes nothing.
pub mod Theorems
pub mod Examples
pub mod Numerals
pub mod Window
pub mod Steps
pub mod document
