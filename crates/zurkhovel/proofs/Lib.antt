-- Laws that more than one proof of a public call cites. Assumes nothing.
pub mod Decoded
pub mod Coded
pub mod Derived
pub mod Carried
pub mod Rooted
pub mod Judged
pub mod Verdicts
pub mod Handing
pub mod Made
pub mod Numbered
