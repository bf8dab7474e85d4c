-- What the program that lists promises.
pub mod Answered
