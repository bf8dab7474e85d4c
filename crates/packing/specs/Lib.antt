-- A call's answer in one whole number. Assumes nothing.
pub mod Unpacked
pub mod document
