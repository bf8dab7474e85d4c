-- What the parts of the centre finder promise each other. Assumes nothing.
pub mod Walking
