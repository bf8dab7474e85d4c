-- Which vertices a renumbering of the skeleton onto itself carries to one another, and how their classes are numbered. Assumes nothing.
pub mod Found
pub mod Appearance
pub mod Joins
pub mod Sides
pub mod Parents
pub mod Carried
pub mod Half
pub mod Rule
pub mod Classes
pub mod Theorems
pub mod Examples
pub mod document
