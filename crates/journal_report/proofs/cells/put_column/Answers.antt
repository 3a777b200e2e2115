-- `put_column` puts what separates, what fills the column and the text.
-- Assumes nothing.
use Rattle.text_digits.proofs.Putting.{put_put, put_as}
use Rattle.journal_report.proofs.Columns.{column_parts}
use Rattle.journal_report.proofs.cells.put_column.Goals as goal

pub returns : goal.returns
returns c =
    put_as _ _ _ _ _ _ (column_parts _ _ _)
    (put_put _ _ _ _ _ _ _ _ (put_put _ _ _ _ _ _ _ _ c.put_gap-p.ensures c.put_fill-q.ensures) c.put.ensures)
