-- `record_by` hands on what `record_at` answers, but refuses a record that breaks the rule, at its first byte.
-- Assumes nothing.
use mathlib.Core.Path.{sym, ◌∙◌}
use Rattle.std.proofs.lemmas.Result.{err_from_is_err_and}
use Rattle.journal.specs.Records.{record_at, record_by}
use Rattle.journal_spec.specs.Scan as Scan
use Rattle.journal.proofs.InProfile.{entry_kept, entry_broken, halted_stays}
use Rattle.journal.proofs.record.record_by.Goals as goal

pub returns-then-kept_by : goal.returns-then-kept_by
unfolding record_by Scan.record_at record_at
returns-then-kept_by c =
    let kept = c.kept_by in
    entry_kept _ _ _ _ (c.in_ok-e.ensures) (sym kept.ensures ∙ c.if-kept_by.true)

pub returns : goal.returns
unfolding record_by Scan.record_at record_at
returns c =
    let kept = c.kept_by in
    entry_broken _ _ _ _ (c.in_ok-e.ensures) (sym kept.ensures ∙ c.if-kept_by.false)

pub returns-in_err-e : goal.returns-in_err-e
unfolding record_by Scan.record_at record_at
returns-in_err-e c =
    let p = err_from_is_err_and c.from_residual.result c.from_residual.ensures.1 in
    rw (p.1, p.2) (halted_stays _ _ _ _ c.in_err-e.ensures)
