-- Plain lines. First what is to be believed: what a line is and what is refused of it, which rows judge its digits, reading, and the marks that no
-- line holds; then the form of a line as the code finds it, that plain lines are a sound format, the examples, and the laws behind them.
-- What holds of a text of lines is in the crate `texts`. Assumes nothing.
pub mod Form
pub mod Forming
pub mod Judged
pub mod Plain
pub mod Examples
pub mod Lawful
pub mod Taking
pub mod OfEdition
pub mod Editions
pub mod Marks
pub mod document
