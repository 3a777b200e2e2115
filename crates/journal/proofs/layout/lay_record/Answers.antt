-- `lay_record` lays form and day and the four sections one behind another.
-- Assumes nothing.
use Rattle.std.proofs.lemmas.List.{map-id}
use Rattle.text_digits.proofs.Putting.{put_put, put_as}
use Rattle.journal.proofs.Laying.{record_parts}
use Rattle.journal.proofs.layout.lay_record.Goals as goal

pub returns : goal.returns
returns c =
    let a = c.args.offer.now in
    let chances = rw (map-id a.chances.now) at c.lay_section-of_chances.ensures in
    let times = rw (map-id a.times.now) at c.lay_section-of_times.ensures in
    let limits = rw (map-id c.args.limits.now) at c.lay_section.ensures in
    let two = put_put _ _ _ _ _ _ _ _ c.lay_head-of_head.ensures c.lay_bytes-of_name.ensures in
    let three = put_put _ _ _ _ _ _ _ _ two chances in
    let four = put_put _ _ _ _ _ _ _ _ three times in
    put_as _ _ _ _ _ _ (record_parts _ _ _ _ _) (put_put _ _ _ _ _ _ _ _ four limits)
