-- `limit` judges the form, then the chance, then the times in one pass, as its definition does.
-- The sums that the pass answers are plausible, since they are those of times in range. Assumes nothing.
use mathlib.Core.Path.{refl, sym, ◌∙◌}
use Rattle.std.proofs.lemmas.Result.{err_from_is_err_and}
use Rattle.limit.specs.Formula.{formula_of, figures_of, moments_of, figures_from}
use Rattle.limit.specs.Answer.{meaning}
use Rattle.limit.specs.Sums.{sums_of}
use Rattle.limit.specs.Limit.{judge, limit_of}
use Rattle.limit.proofs.Gathered.{gathered_within, gathered_outside}
use Rattle.limit.proofs.Plausible.{times_plausible}
use Rattle.limit.proofs.limit.Goals as goal

pub returns-in_err-form : goal.returns-in_err-form
unfolding meaning limit_of judge
returns-in_err-form c =
    let p = err_from_is_err_and c.from_residual.result c.from_residual.ensures.1 in
    rw (p.1, p.2, c.in_err-form.ensures.0, c.in_err-form.ensures.1)

pub returns-then-not-chance_in_range : goal.returns-then-not-chance_in_range
unfolding meaning limit_of judge
returns-then-not-chance_in_range c = rw (c.in_ok-form.ensures.0, sym c.chance_in_range.ensures ∙ c.if-not-chance_in_range.true)

pub returns-in_err-sums : goal.returns-in_err-sums
unfolding meaning limit_of judge
returns-in_err-sums c =
    let p = err_from_is_err_and c.from_residual-in_err-sums.result c.from_residual-in_err-sums.ensures.1 in
    let g = gathered_outside _ _ c.in_err-sums.ensures _ refl in
    rw (p.1, p.2, c.in_ok-form.ensures.0, sym c.chance_in_range.ensures ∙ c.if-not-chance_in_range.false, g.0, g.1)

pub moments-requires : goal.moments-requires
moments-requires c = let g = gathered_within _ _ c.in_ok-sums.ensures _ refl in rw g.sums (times_plausible _ g.inside)

pub returns : goal.returns
unfolding meaning limit_of judge sums_of figures_of formula_of moments_of figures_from
returns c =
    let g = gathered_within _ _ c.in_ok-sums.ensures _ refl in
    rw (
      c.in_ok-form.ensures.0,
      sym c.chance_in_range.ensures ∙ c.if-not-chance_in_range.false,
      g.inside,
      c.figures.ensures,
      c.quantile_of-quantile.ensures,
      c.moments.ensures,
      c.in_ok-form.ensures.1,
      g.sums,
    )
