-- `moments_of_sums` judges the form, then the sums, as its definition does.
-- Assumes nothing.
use mathlib.Core.Path.{sym, ◌∙◌}
use Rattle.std.proofs.lemmas.Result.{err_from_is_err_and}
use Rattle.limit.specs.Answer.{moments_meaning}
use Rattle.limit.specs.Limit.{moments_of_sums}
use Rattle.limit.proofs.moments_of_sums.Goals as goal

pub returns-in_err-stated : goal.returns-in_err-stated
unfolding moments_meaning moments_of_sums
returns-in_err-stated c =
    let p = err_from_is_err_and c.from_residual.result c.from_residual.ensures.1 in
    rw (p.1, p.2, c.in_err-stated.ensures.0, c.in_err-stated.ensures.1)

pub returns-then-not-is_plausible : goal.returns-then-not-is_plausible
unfolding moments_meaning moments_of_sums
returns-then-not-is_plausible c = rw (c.in_ok-stated.ensures.0, sym c.is_plausible.ensures ∙ c.if-not-is_plausible.true)

pub returns : goal.returns
unfolding moments_meaning moments_of_sums
returns c =
    rw (c.in_ok-stated.ensures.0, sym c.is_plausible.ensures ∙ c.if-not-is_plausible.false, c.moments.ensures, c.in_ok-stated.ensures.1)
