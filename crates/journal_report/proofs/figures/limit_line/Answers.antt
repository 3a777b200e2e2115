-- `limit_line` puts the chance, the double, ` ticks, rounded up `, its milliseconds and the last word.
-- Assumes nothing.
use mathlib.Core.Path.{◌≡◌, ap}
use Prim.Native.Nat.{ℕ}
use mathlib.Core.List.{◌++◌}
use lib.Ieee.{binary64, of_bits}
use Rattle.text_digits.specs.Hex.{decimal_digits}
use Rattle.text_digits.proofs.Putting.{put_put, put_as}
use Rattle.std.specs.Prelude.{Option}
use Rattle.text_ticks.specs.declared.whole.Count.{Count}
use Rattle.text_ticks.specs.Ticks.{ticks_up}
use Rattle.text_ticks.specs.Text.{ticks_text}
use Rattle.journal_report.specs.Figures.{limit_word, chance_word, up_word, last_word, double_text, limit_line}
use Rattle.journal_report.proofs.figures.limit_line.Goals as goal

limit_parts : (chance limit : ℕ) (t : Option Count) → t ≡ ticks_up (of_bits binary64 limit)
    → limit_word ++ decimal_digits chance ++ double_text chance_word limit ++ up_word ++ ticks_text t ++ last_word ≡ limit_line chance limit
unfolding limit_line
limit_parts chance limit t e =
    ap (λ (x : Option Count). limit_word ++ decimal_digits chance ++ double_text chance_word limit ++ up_word ++ ticks_text x ++ last_word) e

pub returns : goal.returns
returns c =
    let chance = put_put _ _ _ _ _ _ _ _ c.put-p.ensures c.put_decimal-q.ensures in
    let double = put_put _ _ _ _ _ _ _ _ chance c.put_double-r.ensures in
    let words = put_put _ _ _ _ _ _ _ _ double c.put-s.ensures in
    put_as _ _ _ _ _ _ (limit_parts _ _ c.ticks_up.result c.ticks_up.ensures)
    (put_put _ _ _ _ _ _ _ _ (put_put _ _ _ _ _ _ _ _ words c.put_ticks-t.ensures) c.put.ensures)
