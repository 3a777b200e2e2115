-- `text_ticks::text::put_milliseconds` puts the sign where there is one, and the digits behind it. Assumes nothing.
use Rattle.text_digits.proofs.Putting.{put_put, put_as}
use Rattle.text_ticks.specs.Text.{count_text}
use Rattle.text_ticks.proofs.text.put_milliseconds.Goals as goal
use Rattle.text_ticks.proofs.text.put_milliseconds.Goals.{then-count, else-count}

pub returns : goal.returns
unfolding count_text
returns c =
    elim c.if-count.branch [
      | then-count w ↦ put_as _ _ _ _ _ _ (rw w.if-count.true) (put_put _ _ _ _ _ _ _ _ w.put-p.ensures (rw (w.line-is, w.p-is) at c.put_hundredths.ensures))
      | else-count w ↦ put_as _ _ _ _ _ _ (rw w.if-count.false) (rw (w.line-is, w.p-is) at c.put_hundredths.ensures)
    ]
