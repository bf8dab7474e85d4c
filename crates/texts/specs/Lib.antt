-- A text of lines, with what a line may be as the parameter. First what is to be believed: bytes, numbers as they are written, a line format and
-- what its lines and texts are answered, reading into what is lent, what damage can do, and demand 3 of a kind of line; then what is asked of a format, the
-- theorems, and the laws behind them; demand 3, proved of what a caller sees; then lines of parts set apart by spaces, and numbers of any length. Assumes nothing.
pub mod Damage
pub mod Sound
pub mod Theorems
pub mod Cuts
pub mod Edits
pub mod Judging
pub mod Answered
pub mod Texts
pub mod Records
pub mod Robustness
pub mod Ending
pub mod Taking
pub mod FirstLines
pub mod Turns
pub mod Going
pub mod Seen
pub mod Demanded
pub mod Spaced
pub mod Parted
pub mod Numerals
pub mod Numbers
pub mod document
