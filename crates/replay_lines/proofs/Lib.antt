-- Laws for the programs that replay lines.
pub mod Chunk
pub mod Fields
pub mod Replay
