-- `append_log_beside` answers a line of the log that is refused, and else hands the times on to the append of times.
-- Assumes nothing.
use mathlib.Core.Path.{refl, sym, ◌∙◌}
use Rattle.journal_spec.specs.Request.{gather_by, times_of}
use Rattle.journal_spec.proofs.Logs.{handed_in}
use Rattle.journal.proofs.Through.{through_refused, through_times}
use Rattle.journal_index.proofs.log.append_log_beside.Goals as goal

pub returns-in-Err : goal.returns-in-Err
unfolding times_of gather_by
returns-in-Err c =
    record { index_after = through_refused _ _ _ _ _ (sym c.gather-g.ensures.result_value.0 ∙ c.in-Err.ensures); index_unchanged = λ unset. refl }

pub returns-in-Ok : goal.returns-in-Ok
unfolding times_of gather_by handed_in
returns-in-Ok c = record {
  index_after = through_times _ _ _ _ (sym c.gather-g.ensures.result_value.0 ∙ c.in-Ok.ensures) _ c.append_beside.ensures.index_after;
  index_unchanged = c.append_beside.ensures.index_unchanged;
}
