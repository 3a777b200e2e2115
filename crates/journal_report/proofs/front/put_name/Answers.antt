-- `put_name` puts the name's bytes and what fills its column.
-- Assumes nothing.
use native.Mathlib.Omega.{arith}
use Rattle.text_digits.proofs.Putting.{put_put, put_as}
use Rattle.journal_parts.specs.Spans.{numbers_of}
use Rattle.journal_report.proofs.Slots.{name_parts}
use Rattle.journal_report.proofs.front.put_name.Goals as goal

pub returns : goal.returns
unfolding numbers_of
returns c =
    let a = c.args in
    put_as _ _ _ _ _ _ (name_parts a.tabs a.width a.name.first a.name.count a.v.now (omega arith))
    (put_put _ _ _ _ _ _ _ _ c.put-p.ensures c.put_fill.ensures)
