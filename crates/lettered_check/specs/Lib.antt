-- Digits with letters that are to be a centred code: what the programs that check them lean on. Assumes nothing.
pub mod Rows
pub mod Examples
pub mod Lettered
pub mod document
