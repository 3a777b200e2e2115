-- `add_here` goes by what the index's test says. Assumes nothing.
use Rattle.std.proofs.Common.{ap, ◌∙◌, Err, arith}
use Rattle.journal_trial.proofs.Deciding.{checked_own, refused_index, unknown_refused}
use Rattle.journal_trial.proofs.AddedAll.{index_same}
use Rattle.journal_trial.proofs.adding.add_here.Goals as goal

pub add_own-requires : goal.add_own-requires
add_own-requires c = checked_own _ _ _ (λ i. omega (arith, c.type_inv.v i)) _ c.in-Ok.ensures

pub returns-in-Err : goal.returns-in-Err
returns-in-Err c = record {
  value = ap Err c.refused.ensures ∙ rw c.from.ensures (unknown_refused _ _ _ _ _ (refused_index _ _ _ _ _ c.in-Err.ensures));
  table_after = index_same _ _ _ _ _ (λ i. omega (arith, c.type_inv.table i)) _ c.in-Err.ensures;
}
