-- `put_limits` puts every quote, or those of the chances asked for, of as many as the fewer of its two sections has.
-- Assumes nothing.
use mathlib.Core.Path.{sym}
use Rattle.text_digits.proofs.Putting.{put_as}
use Rattle.journal_parts.specs.Spans.{numbers_of}
use Rattle.journal_report.proofs.Quoting.{all_columns, asked_columns_lem}
use Rattle.journal_report.proofs.quotes.put_limits.Goals as goal

pub returns-then-is_empty : goal.returns-then-is_empty
unfolding numbers_of
returns-then-is_empty c =
    let a = c.args in
    let s = a.s in
    put_as _ _ _ _ _ _
    (all_columns a.tabs a.asked.now a.v.now s.chances.count s.limits.count s.chances.first s.limits.first c.min.result
    (sym c.if-is_empty.ensures) c.min.ensures)
    c.put_all.ensures

pub returns-else-is_empty : goal.returns-else-is_empty
unfolding numbers_of
returns-else-is_empty c =
    let a = c.args in
    let s = a.s in
    put_as _ _ _ _ _ _
    (asked_columns_lem a.tabs a.asked.now a.v.now s.chances.count s.limits.count s.chances.first s.limits.first c.min.result
    (sym c.if-is_empty.ensures) c.min.ensures)
    c.put_asked.ensures
