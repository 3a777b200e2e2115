-- `Formula` bounds mean, spread and both ends for any divisor, `Limits` has request 2026-06's theorem, `Band` request 2026-11's of the band.
pub mod Formula
pub mod Limits
pub mod Band
