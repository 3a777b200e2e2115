-- `try_entry` goes by what the index's test says.
-- Assumes nothing.
use Rattle.std.proofs.Common.{ap, ◌∙◌, Err, arith}
use Rattle.journal_trial.proofs.Deciding.{checked_own, refused_index, entry_refused}
use Rattle.journal_trial.proofs.calls.try_entry.Goals as goal

pub own_trial-requires : goal.own_trial-requires
own_trial-requires c = checked_own _ _ _ (λ i. omega (arith, c.type_inv.v i)) _ c.in-Ok.ensures

pub returns-in-Err : goal.returns-in-Err
returns-in-Err c =
    ap Err c.refused.ensures ∙ rw c.from.ensures (entry_refused _ _ _ _ _ _ (refused_index _ _ _ _ _ c.in-Err.ensures))
