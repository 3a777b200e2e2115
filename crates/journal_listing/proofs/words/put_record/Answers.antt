-- `put_record` puts the parts of a record's line one behind another; its sections stand inside the bytes.
-- Assumes nothing.
use Rattle.journal_parts.specs.Spans.{record_in}
use Rattle.journal_listing.proofs.Putting.{put_put, put_as}
use Rattle.journal_listing.proofs.Texts.{record_line_lem}
use Rattle.journal_parts.proofs.Insides.{standing}
use Rattle.journal_listing.proofs.words.put_record.Goals as goal

pub put_front-p-requires : goal.put_front-p-requires
put_front-p-requires c =
    let k = standing c.args.at c.args.s c.args.b.now c.requires in
    (k.head, k.name)

pub put_mark-q-requires : goal.put_mark-q-requires
put_mark-q-requires c = (standing c.args.at c.args.s c.args.b.now c.requires).times

pub moments_at-worked-requires : goal.moments_at-worked-requires
moments_at-worked-requires c =
    let k = standing c.args.at c.args.s c.args.b.now c.requires in
    (k.head, k.times)

pub put_limits-t-requires : goal.put_limits-t-requires
put_limits-t-requires c =
    let k = standing c.args.at c.args.s c.args.b.now c.requires in
    (k.chances, k.limits)

pub returns : goal.returns
unfolding record_in
returns c =
    let a = c.args in
    let marked = put_put _ _ _ _ _ _ _ _ c.put_front-p.ensures c.put_mark-q.ensures in
    let figured = put_put _ _ _ _ _ _ _ _ marked (rw c.moments_at-worked.ensures at c.put_moments-r.ensures) in
    let listed = put_put _ _ _ _ _ _ _ _ figured c.put_limits-t.ensures in
    let line = record_line_lem (record_in a.at a.s a.b.now) in
    put_as _ _ _ _ _ _ line (put_put _ _ _ _ _ _ _ _ listed c.put.ensures)
