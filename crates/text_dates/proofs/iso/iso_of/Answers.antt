-- `text_dates::iso::iso_of` meets its contract: the three numbers stand in their places between the dashes. Assumes nothing.
use native.Mathlib.Omega.{arith}
use Rattle.text_digits.specs.Hex.{digits}
use Rattle.text_dates.specs.Iso.{iso_text, iso_of}
use Rattle.text_dates.proofs.iso.iso_of.Goals as goal

pub slice_bounds-out-end-3 : goal.slice_bounds-out-end-3
unfolding digits
slice_bounds-out-end-3 c = rw (c.decimal_into-2.ensures, c.decimal_into.ensures) (omega arith)

pub returns : goal.returns
unfolding digits iso_text iso_of
returns c =
    rw (c.decimal_into-3.ensures, c.decimal_into-2.ensures, c.decimal_into.ensures)
    (rw c.date_of-date.ensures)
