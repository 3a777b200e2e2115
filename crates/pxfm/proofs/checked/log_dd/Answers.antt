-- `log_dd`: where the test passes, `positive_finite_bits` gives the two bounds that the logarithm requires; each branch is the definition's.
-- Assumes nothing.
use Rattle.std.proofs.Common.{sym, ◌∙◌}
use Rattle.pxfm.specs.Checked.{checked_log_dd}
use Rattle.pxfm.proofs.PositiveFinite.{positive_finite_bits}
use Rattle.pxfm.proofs.checked.log_dd.Goals as goal

pub fast_log_dd-requires : goal.fast_log_dd-requires
unfolding checked_log_dd
fast_log_dd-requires c =
    let h = positive_finite_bits c.args.x.hi (sym c.positive_finite.ensures ∙ c.if-positive_finite.true) in
    record { hi_nonzero = h.0; hi_bound = h.1 }

pub returns-then-positive_finite : goal.returns-then-positive_finite
unfolding checked_log_dd
returns-then-positive_finite c = rw (c.fast_log_dd.ensures, sym c.positive_finite.ensures ∙ c.if-positive_finite.true)

pub returns : goal.returns
unfolding checked_log_dd
returns c = rw (c.nan_pair.ensures, sym c.positive_finite.ensures ∙ c.if-positive_finite.false)
