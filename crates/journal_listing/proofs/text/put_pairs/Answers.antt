-- `put_pairs` puts one pair a turn, by the invariant. Assumes nothing.
use native.Mathlib.Omega.{arith}
use Rattle.text_digits.proofs.Putting.{put_as}
use Rattle.journal_listing.proofs.Pairs.{quoted_text, pairs_start, pairs_turn, pairs_end, pairs_quoted}
use Rattle.journal_listing.proofs.text.put_pairs.Goals as goal

pub loop-i-init : goal.loop-i-init
loop-i-init c = pairs_start quoted_text _ _ _ _ _ _

pub loop-i-preserved : goal.loop-i-preserved
loop-i-preserved c =
    pairs_turn quoted_text _ _ _ _ _ _ _ _ _ c.loop-i.invariant _ _ _ _ (omega arith) c.number_at-chance.ensures.0 c.number_at-limit.ensures.0
    c.put_limit-place.ensures

pub returns : goal.returns
returns c = put_as _ _ _ _ _ _ (pairs_quoted _ _ _ _) (pairs_end quoted_text _ _ _ _ _ _ _ _ _ c.loop-i.invariant (omega arith))
