-- `head_line` puts the name's head, what fills its column, and the other heads.
-- Assumes nothing.
use mathlib.Core.Path.{◌≡◌, refl}
use Prim.Native.Nat.{ℕ}
use mathlib.Core.Bool.{false}
use mathlib.Core.List.{◌++◌}
use Rattle.text_digits.proofs.Putting.{put_put, put_as}
use Rattle.journal_report.specs.Slot.{gap, fill, column, name_column}
use Rattle.journal_report.specs.Report.{head_name, head_columns, head_line}
use Rattle.journal_report.proofs.head.head_line.Goals as goal

head_parts : (w : ℕ) → (head_name ++ fill false w 4) ++ head_columns ≡ head_line w
unfolding head_line name_column
head_parts w = refl

pub returns : goal.returns
unfolding head_columns column fill gap
returns c =
    put_as _ _ _ _ _ _ (head_parts _)
    (put_put _ _ _ _ _ _ _ _ (put_put _ _ _ _ _ _ _ _ c.put-p.ensures c.put_fill-q.ensures) c.put.ensures)
