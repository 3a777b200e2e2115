-- `put_fraction` puts the whole number, and the point and the digits behind it where there are some. Assumes nothing.
use native.Mathlib.Omega.{arith}
use Rattle.text_digits.proofs.Putting.{put_put, put_as}
use Rattle.text_decimal.proofs.Behind.{shifted_unit}
use Rattle.text_decimal.proofs.Shown.{fraction_whole, fraction_parts}
use Rattle.text_decimal.proofs.text.put_fraction.Goals as goal

pub returns-then-f-eq0 : goal.returns-then-f-eq0
returns-then-f-eq0 c = put_as _ _ _ _ _ _ (fraction_whole _ _ _ c.if-f-eq0.true (shifted_unit _ (omega arith)).power) c.put_decimal-p.ensures

pub returns : goal.returns
returns c =
    put_as _ _ _ _ _ _ (fraction_parts _ _ _ c.if-f-eq0.false (shifted_unit _ (omega arith)).power)
    (put_put _ _ _ _ _ _ _ _ (put_put _ _ _ _ _ _ _ _ c.put_decimal-p.ensures c.put-q.ensures) c.put_digits.ensures)
