-- `band` judges the share, then takes mean and spread as the limit answers them for the times under form 2, or their refusal.
-- Assumes nothing.
use mathlib.Core.Path.{refl, ◌∙◌, sym, ap}
use Rattle.std.proofs.lemmas.Result.{err_from_is_err_and}
use Rattle.limit.specs.Answer.{moments_meaning}
use Rattle.band.specs.Answer.{banded, meaning}
use Rattle.band.specs.Band.{judge, band_of}
use Rattle.band.proofs.Worked.{band_worked, band_unworked}
use Rattle.band.proofs.band.Goals as goal

pub returns-then-not-share_in_range : goal.returns-then-not-share_in_range
unfolding meaning band_of judge
returns-then-not-share_in_range c = rw (sym c.share_in_range.ensures ∙ c.if-not-share_in_range.true)

pub returns : goal.returns
unfolding meaning moments_meaning
returns c =
    ap banded c.ends_at.ensures
    ∙ band_worked _ _ (sym c.share_in_range.ensures ∙ c.if-not-share_in_range.false) _ c.in_ok-moments.ensures _ refl

pub returns-in_err-moments : goal.returns-in_err-moments
unfolding meaning moments_meaning
returns-in_err-moments c =
    let p = err_from_is_err_and c.from_residual.result c.from_residual.ensures.1 in
    rw (p.1, p.2) (band_unworked _ _ (sym c.share_in_range.ensures ∙ c.if-not-share_in_range.false) _ c.in_err-moments.ensures _ refl)
