-- `scale`: a subnormal's shift is that of the law `shifted`, by which nothing is lost above and the significand has 53 bits;
-- for the others the bounds on the pattern give those on significand and exponent. Assumes nothing.
use Rattle.std.proofs.Common.{ℕ, ◌-◌, ap, arith, rules, eq-eqb, ne_eqb}
use Rattle.pxfm.specs.FastLogDd.{scaled, shift_of, scaled_of}
use Rattle.pxfm.proofs.Shift.{Shifted, shifted}
use Rattle.pxfm.proofs.logs.fast_log_dd.scale.Goals as goal

subnormal : (c : goal.Then-e-eq0) → Shifted 64 52 c.args.b
subnormal c = shifted 64 52 c.args.b (omega arith) (omega arith) (omega arith)

pub overflow_sub-k : goal.overflow_sub-k
unfolding scaled_of
overflow_sub-k c = let h = subnormal c in omega arith

pub overflow_cast-result : goal.overflow_cast-result
unfolding scaled_of
overflow_cast-result c = let h = subnormal c in search rules

pub overflow_shl-result : goal.overflow_shl-result
unfolding scaled_of
overflow_shl-result c = let h = subnormal c in omega arith

pub overflow_sub-result : goal.overflow_sub-result
unfolding scaled_of
overflow_sub-result c = let h = subnormal c in omega arith

pub returns-then-e-eq0 : goal.returns-then-e-eq0
unfolding scaled_of
returns-then-e-eq0 c =
    let h = subnormal c in (
      rw (eq-eqb _ _ c.if-e-eq0.true) (ap (λ (m : ℕ). scaled m (52 - shift_of c.args.b)) h.kept),
      rw h.kept (record { low = h.low; high = h.high; top = omega arith }),
    )

pub returns : goal.returns
unfolding scaled_of
returns c = (rw (ne_eqb _ _ c.if-e-eq0.false), record { low = omega arith; high = omega arith; top = omega arith })
