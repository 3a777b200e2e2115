-- Texts put into a line one behind another: the laws stand in crate text_digits, and are passed on to those who build on the listing.
-- Assumes nothing.
pub use Rattle.text_digits.proofs.Putting.{put_nothing, put_put, put_as}
