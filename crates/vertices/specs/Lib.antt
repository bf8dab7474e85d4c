-- Equal vertices: what the functions that find their classes keep. Assumes nothing.
pub mod Search
