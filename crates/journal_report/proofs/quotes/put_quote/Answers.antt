-- `put_quote` puts the chance, a colon and the limit's milliseconds.
-- Assumes nothing.
use Rattle.text_digits.proofs.Putting.{put_put, put_as}
use Rattle.journal_report.proofs.Slots.{slot_parts}
use Rattle.journal_report.proofs.quotes.put_quote.Goals as goal

pub returns : goal.returns
returns c =
    put_as _ _ _ _ _ _ (slot_parts _ _ c.ticks_up.result c.ticks_up.ensures)
    (put_put _ _ _ _ _ _ _ _ (put_put _ _ _ _ _ _ _ _ c.put_decimal-p.ensures c.put-q.ensures) c.put_ticks.ensures)
