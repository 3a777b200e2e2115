-- The definitions of the band (document 02, 2026-11).
-- What it answers, and how the answer is worked out.
pub mod Answer
pub mod Band
