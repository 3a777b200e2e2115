-- `put_front` puts name, date and mark; the record's sections stand inside the bytes.
-- Assumes nothing.
use Rattle.text_digits.proofs.Putting.{put_put}
use Rattle.journal_parts.specs.Spans.{record_in}
use Rattle.journal_parts.proofs.Insides.{standing}
use Rattle.journal_report.specs.Slot.{front_columns}
use Rattle.journal_report.proofs.front.put_front.Goals as goal

pub put_name-p-requires : goal.put_name-p-requires
put_name-p-requires c = (standing c.args.at c.args.s c.args.v.now c.requires).name

pub put_day-q-requires : goal.put_day-q-requires
put_day-q-requires c = (standing c.args.at c.args.s c.args.v.now c.requires).head

pub put_mark-requires : goal.put_mark-requires
put_mark-requires c = (standing c.args.at c.args.s c.args.v.now c.requires).times

pub returns : goal.returns
unfolding front_columns record_in
returns c = put_put _ _ _ _ _ _ _ _ (put_put _ _ _ _ _ _ _ _ c.put_name-p.ensures c.put_day-q.ensures) c.put_mark.ensures
