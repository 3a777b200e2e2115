-- `copy_times` copies one time a turn. Assumes nothing.
use mathlib.Core.Path.{◌≡◌}
use lib.ListN.{take}
use Rattle.journal_spec.specs.Bytes.{numbers_in}
use Rattle.journal_listing.proofs.moments.copy_times.Given as goal

abbrev pub invariant-loop-i : goal.invariant-loop-i
invariant-loop-i l = take l.i l.ticks ≡ numbers_in 4 l.i l.first l.b
