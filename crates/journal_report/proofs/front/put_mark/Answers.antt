-- `put_mark` puts the letter of the mark, found from the part of the bytes in which the times stand.
-- Assumes nothing.
use mathlib.Core.Path.{◌≡◌, ap, ◌∙◌}
use Prim.Native.Nat.{◌+◌, ◌*◌, ◌-◌}
use native.Mathlib.Omega.{arith}
use native.Mathlib.Nat.{add-sub_cancel_left}
use lib.ListN.{take, drop}
use Rattle.text_digits.proofs.Putting.{put_put}
use Rattle.journal_spec.specs.Bytes.{numbers_in}
use Rattle.journal_spec.specs.Read.{letter_of, mark_of, times_in}
use Rattle.journal_parts.specs.Spans.{numbers_of}
use Rattle.journal_listing.proofs.Texts.{times_part}
use Rattle.journal_report.proofs.front.put_mark.Goals as goal

pub returns : goal.returns
unfolding numbers_of
returns c =
    let a = c.args in
    let f = a.times.first in
    let n = a.times.count in
    let times : times_in (take (f + n * 4 - f) (drop f a.v.now)) ≡ numbers_in 4 n f a.v.now =
    rw (add-sub_cancel_left f (n * 4)) (times_part n f a.v.now (omega arith)) in
    let letter = c.letter_of-letter.ensures ∙ ap letter_of (c.mark_of.ensures ∙ ap mark_of times) in
    rw (← letter) (put_put _ _ _ _ _ _ _ _ c.put_gap-p.ensures c.put.ensures)
