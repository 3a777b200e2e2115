-- `put_double` puts a text, the bits, `, exactly ` and the exact decimal.
-- Assumes nothing.
use mathlib.Core.Path.{◌≡◌, ap}
use Prim.Native.Nat.{ℕ}
use mathlib.Core.List.{List, ◌++◌}
use lib.Ieee.{binary64, of_bits}
use Rattle.text_digits.specs.Hex.{hex_digits}
use Rattle.text_digits.proofs.Putting.{put_put, put_as}
use Rattle.text_decimal.specs.Decimal.{exact_text}
use Rattle.journal_report.specs.Figures.{exact_word, double_text}
use Rattle.journal_report.proofs.figures.put_double.Goals as goal

double_parts : (what : List ℕ) (bits : ℕ) (d : List ℕ) → d ≡ hex_digits 16 bits
    → what ++ d ++ exact_word ++ exact_text (of_bits binary64 bits) ≡ double_text what bits
unfolding double_text
double_parts what bits d e = ap (λ (x : List ℕ). what ++ x ++ exact_word ++ exact_text (of_bits binary64 bits)) e

pub returns : goal.returns
returns c =
    put_as _ _ _ _ _ _ (double_parts _ _ _ c.hex_of-digits.ensures)
    (put_put _ _ _ _ _ _ _ _
    (put_put _ _ _ _ _ _ _ _ (put_put _ _ _ _ _ _ _ _ c.put-p.ensures c.put-q.ensures) c.put-r.ensures)
    c.put_exact.ensures)
