-- `copy_times` copies one time a turn, by the invariant. Assumes nothing.
use mathlib.Core.Path.{refl}
use native.Mathlib.Omega.{arith}
use Rattle.journal_spec.specs.Bytes.{numbers_in}
use Rattle.journal_listing.proofs.Copying.{copied_more}
use Rattle.journal_listing.proofs.moments.copy_times.Goals as goal

pub loop-i-init : goal.loop-i-init
unfolding numbers_in
loop-i-init c = refl

pub loop-i-preserved : goal.loop-i-preserved
loop-i-preserved c = copied_more _ _ _ _ _ (omega arith) c.number_at.ensures.0 c.loop-i.invariant
