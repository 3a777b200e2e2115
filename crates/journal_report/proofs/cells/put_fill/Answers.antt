-- `put_fill` puts nothing, or spaces. Assumes nothing.
use Rattle.text_digits.proofs.Putting.{put_nothing, put_as}
use Rattle.journal_report.proofs.Columns.{fill_none, fill_spaces}
use Rattle.journal_report.proofs.cells.put_fill.Goals as goal

pub returns-then-tabs : goal.returns-then-tabs
returns-then-tabs c = put_as _ _ _ _ _ _ (fill_none _ _ _ c.if-tabs.true) (put_nothing _ _)

pub returns : goal.returns
returns c = put_as _ _ _ _ _ _ (fill_spaces _ _ _ _ c.if-tabs.false c.saturating_sub.ensures) c.put_spaces.ensures
