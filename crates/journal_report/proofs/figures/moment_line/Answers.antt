-- `moment_line` puts the double, ` ticks, to the nearest `, its milliseconds and the last word.
-- Assumes nothing.
use mathlib.Core.Path.{◌≡◌, ap}
use Prim.Native.Nat.{ℕ}
use mathlib.Core.List.{List, ◌++◌}
use lib.Ieee.{binary64, of_bits}
use Rattle.text_digits.proofs.Putting.{put_put, put_as}
use Rattle.std.specs.Prelude.{Option}
use Rattle.text_ticks.specs.declared.whole.Count.{Count}
use Rattle.text_ticks.specs.Ticks.{ticks_near}
use Rattle.text_ticks.specs.Text.{ticks_text}
use Rattle.journal_report.specs.Figures.{near_word, last_word, double_text, moment_line}
use Rattle.journal_report.proofs.figures.moment_line.Goals as goal

moment_parts : (what : List ℕ) (bits : ℕ) (t : Option Count) → t ≡ ticks_near (of_bits binary64 bits)
    → double_text what bits ++ near_word ++ ticks_text t ++ last_word ≡ moment_line what bits
unfolding moment_line
moment_parts what bits t e = ap (λ (x : Option Count). double_text what bits ++ near_word ++ ticks_text x ++ last_word) e

pub returns : goal.returns
returns c =
    put_as _ _ _ _ _ _ (moment_parts _ _ c.ticks_near.result c.ticks_near.ensures)
    (put_put _ _ _ _ _ _ _ _
    (put_put _ _ _ _ _ _ _ _ (put_put _ _ _ _ _ _ _ _ c.put_double-p.ensures c.put-q.ensures) c.put_ticks-r.ensures)
    c.put.ensures)
