-- `limit_of_quantile` hands a refusal on, judges the chance, and else works the limit out.
-- Assumes nothing.
use mathlib.Core.Path.{sym, ◌∙◌}
use Rattle.std.proofs.lemmas.Result.{err_from_is_err_and}
use Rattle.limit.specs.Answer.{meaning, moments_meaning}
use Rattle.limit.specs.Limit.{limit_of_quantile}
use Rattle.limit.proofs.limit_of_quantile.Goals as goal

pub returns-in_err-moments : goal.returns-in_err-moments
unfolding meaning moments_meaning limit_of_quantile
returns-in_err-moments c =
    let p = err_from_is_err_and c.from_residual.result c.from_residual.ensures.1 in
    rw (p.1, p.2, c.in_err-moments.was)

pub returns-then-chance_in_range : goal.returns-then-chance_in_range
unfolding meaning moments_meaning limit_of_quantile
returns-then-chance_in_range c =
    rw (c.in_ok-moments.was, sym c.chance_in_range.ensures ∙ c.if-chance_in_range.true, c.figures.ensures)

pub returns-else-chance_in_range : goal.returns-else-chance_in_range
unfolding meaning moments_meaning limit_of_quantile
returns-else-chance_in_range c = rw (c.in_ok-moments.was, sym c.chance_in_range.ensures ∙ c.if-chance_in_range.false)
