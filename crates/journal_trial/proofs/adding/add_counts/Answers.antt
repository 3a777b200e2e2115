-- `add_counts` adds one number a turn. Assumes nothing.
use Rattle.std.proofs.Common.{refl, ◌∙◌, arith}
use Rattle.journal_trial.proofs.Tabled.{place_added, added_none, added_end}
use Rattle.journal_trial.proofs.adding.add_counts.Goals as goal

pub loop-i-init : goal.loop-i-init
loop-i-init c = added_none _ _

pub loop-i-preserved : goal.loop-i-preserved
loop-i-preserved c = place_added _ _ _ _ (omega arith) refl _ _ refl c.loop-i.invariant

pub returns : goal.returns
returns c = c.loop-i.invariant ∙ added_end _ _ c.loop-i.i _ (omega arith)
