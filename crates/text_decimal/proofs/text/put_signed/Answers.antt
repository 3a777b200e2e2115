-- `put_signed` puts the sign where there is one, and the digits behind it. Assumes nothing.
use Rattle.text_digits.proofs.Putting.{put_put, put_as}
use Rattle.text_decimal.specs.Decimal.{signed_text}
use Rattle.text_decimal.proofs.text.put_signed.Goals as goal
use Rattle.text_decimal.proofs.text.put_signed.Goals.{then-below, else-below}

pub returns : goal.returns
unfolding signed_text
returns c =
    elim c.if-below.branch [
      | then-below w ↦ put_as _ _ _ _ _ _ (rw w.if-below.true) (put_put _ _ _ _ _ _ _ _ w.put-p.ensures (rw (w.line-is, w.p-is) at c.put_fraction.ensures))
      | else-below w ↦ put_as _ _ _ _ _ _ (rw w.if-below.false) (rw (w.line-is, w.p-is) at c.put_fraction.ensures)
    ]
