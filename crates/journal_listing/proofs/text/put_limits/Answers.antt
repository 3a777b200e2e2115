-- `put_limits` puts as many pairs as the fewer of its two sections has.
-- Assumes nothing.
use mathlib.Core.Path.{sym, ap}
use Rattle.journal_listing.specs.Spaced.{each_spaced}
use Rattle.journal_parts.specs.Spans.{numbers_of}
use Rattle.journal_listing.proofs.Putting.{put_as}
use Rattle.journal_listing.proofs.Texts.{pairs_fewer}
use Rattle.journal_listing.proofs.text.put_limits.Goals as goal

pub returns : goal.returns
unfolding numbers_of
returns c =
    let a = c.args in
    let pairs = pairs_fewer a.b.now a.chances.count a.limits.count a.chances.first a.limits.first in
    put_as _ _ _ _ _ _ (rw c.min-pairs.ensures (ap each_spaced (sym pairs))) c.put_pairs.ensures
