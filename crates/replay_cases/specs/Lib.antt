-- What the contracts of the replay cite: a line, its comparison, its bytes, and the replay of many lines.
pub mod Line
pub mod Compare
pub mod Store
pub mod Replay
