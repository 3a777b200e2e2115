-- `put_slot` puts the parts of a line one behind another; the record's sections stand inside the bytes.
-- Assumes nothing.
use Rattle.text_digits.proofs.Putting.{put_put}
use Rattle.journal_parts.specs.Spans.{record_in}
use Rattle.journal_parts.proofs.Insides.{standing}
use Rattle.journal_report.specs.Slot.{slot_line}
use Rattle.journal_report.proofs.slot.put_slot.Goals as goal

pub put_front-p-requires : goal.put_front-p-requires
put_front-p-requires c = c.requires

pub put_figures-q-requires : goal.put_figures-q-requires
put_figures-q-requires c = c.requires

pub put_limits-r-requires : goal.put_limits-r-requires
put_limits-r-requires c =
    let k = standing c.args.at c.args.s c.args.v.now c.requires in
    (k.chances, k.limits)

pub returns : goal.returns
unfolding slot_line record_in
returns c =
    put_put _ _ _ _ _ _ _ _
    (put_put _ _ _ _ _ _ _ _ (put_put _ _ _ _ _ _ _ _ c.put_front-p.ensures c.put_figures-q.ensures) c.put_limits-r.ensures)
    c.put.ensures
