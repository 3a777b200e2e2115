-- `make_whole` finds the last record of each name in order, and makes the index of these. Assumes nothing.
use mathlib.Core.Path.{sym}
use native.Mathlib.Omega.{arith}
use lib.Seq.{length-take-le}
use Rattle.journal_index.proofs.Latest.{latest_named}
use Rattle.journal_index.proofs.make.make_whole.Goals as goal

pub slice_bounds-make_named-end : goal.slice_bounds-make_named-end
slice_bounds-make_named-end c = sym (length-take-le _ _ (omega (arith, c.latest_of-count.ensures.upper_bound)))

pub make_named-requires : goal.make_named-requires
make_named-requires c = latest_named _ c.requires _ c.latest_of-count.ensures.latest_of
