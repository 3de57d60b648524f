-- Hits written into the two lent buffers.
pub mod Writing
