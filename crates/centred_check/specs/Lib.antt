-- A centred code told by its marks alone. Assumes nothing.
pub mod Middle
pub mod Lift
pub mod Turn
pub mod Root
pub mod Theorems
pub mod Skip
pub mod Stack
pub mod Placed
pub mod Pieces
pub mod Race
pub mod Spot
pub mod Over
pub mod Scan
pub mod Kinds
pub mod Answer
pub mod Examples
