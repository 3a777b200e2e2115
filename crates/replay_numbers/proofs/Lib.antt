-- `Same`: which lines differ, and that the mirror's do not.
pub mod Same
