-- `append_log_with` answers a line of the log that is refused, and else hands the times on to the append of times.
-- Assumes nothing.
use mathlib.Core.Path.{sym, ◌∙◌}
use Rattle.journal_spec.specs.Request.{gather_by, times_of}
use Rattle.journal_spec.proofs.Logs.{handed_in}
use Rattle.journal.proofs.Through.{through_refused, through_times}
use Rattle.journal.proofs.log.append_log_with.Goals as goal

pub returns-in-Err : goal.returns-in-Err
unfolding times_of gather_by
returns-in-Err c = through_refused _ _ _ _ _ (sym c.gather-g.ensures.result_value.0 ∙ c.in-Err.ensures)

pub returns-in-Ok : goal.returns-in-Ok
unfolding times_of gather_by handed_in
returns-in-Ok c = through_times _ _ _ _ (sym c.gather-g.ensures.result_value.0 ∙ c.in-Ok.ensures) _ c.append_with.ensures
