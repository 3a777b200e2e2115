-- `put_front` puts the name's bytes, a space and the day.
-- Assumes nothing.
use mathlib.Core.Path.{◌∙◌}
use Prim.Native.Nat.{◌+◌}
use mathlib.Core.List.{append_assoc}
use native.Mathlib.Omega.{arith}
use native.Mathlib.Nat.{add-sub_cancel_left}
use Rattle.journal_parts.specs.Spans.{numbers_of}
use Rattle.journal_parts.proofs.NumberStands.{number_stands}
use Rattle.journal_listing.proofs.Putting.{put_put, put_as}
use Rattle.journal_listing.proofs.Texts.{bytes_in_lem}
use Rattle.journal_listing.proofs.words.put_front.Goals as goal

pub returns : goal.returns
unfolding numbers_of
returns c =
    let a = c.args in
    let name = bytes_in_lem a.name.count a.name.first a.b.now (omega arith) in
    let day = c.number_in-day.ensures ∙ number_stands 2 (a.at + 2) a.b.now (omega arith) (omega arith) in
    let spaced = put_put _ _ _ _ _ _ _ _ c.put-p.ensures c.put-q.ensures in
    put_as _ _ _ _ _ _ (rw (name, ← day, append_assoc) (rw (add-sub_cancel_left a.name.first a.name.count)))
    (put_put _ _ _ _ _ _ _ _ spaced c.put_decimal.ensures)
