-- `entry_line` writes the line of what stands at the entry's start, and none where there is no entry.
-- Assumes nothing.
use native.Mathlib.Omega.{arith}
use Rattle.text_digits.proofs.Putting.{put_nothing, put_as}
use Rattle.journal_report.proofs.Positions.{line_at, line_none}
use Rattle.journal_report.proofs.Shown.{writes_line}
use Rattle.journal_report.proofs.entry_line.Goals as goal

pub returns-in-Some : goal.returns-in-Some
returns-in-Some c =
    writes_line _ _ _ _ _ _ _ _ _ (λ i. omega (arith, c.type_inv.v i))
    (put_as _ _ _ _ _ _ (line_at _ _ _ _ _ _ c.entry_start.ensures _ c.in-Some.is) c.slot_line.ensures)

pub returns-in-None : goal.returns-in-None
returns-in-None c =
    writes_line _ _ _ _ _ _ _ _ _ (λ i. omega (arith, c.type_inv.v i))
    (put_as _ _ _ _ _ _ (line_none _ _ _ _ _ _ c.entry_start.ensures c.in-None.is) (put_nothing _ _))
