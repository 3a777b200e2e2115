-- `f_erfinv`: the tests are the definition's, but that a size below 1 is asked for before one beyond it: the same by `below_one_within` and
-- `past_one_beyond`. A size below 1 is what `erf_core_of` requires. 1 / 0 and 0 / 0 are computed to be the infinity and the NaN. Assumes nothing.
use Rattle.std.proofs.Common.{◌≡◌, ◌∙◌, true, false}
use lib.Ieee.{of_bits, eq, div}
use Rattle.pxfm.specs.DoubleDouble.{one}
use Rattle.pxfm.specs.Inverf.{f_erfinv, with_sign, size_of, beyond_one}
use Rattle.pxfm.proofs.Signs.{abs_size, below_one_within, past_one_beyond}
use Rattle.pxfm.proofs.err.inverf.f_erfinv.Goals as goal

-- What the tests showed of the size, at the places behind them.
at_one : (c : goal.After-with_sign) → eq (size_of c.args.x) one ≡ true
at_one c = rw (← (c.abs-a.ensures.value ∙ abs_size c.args.x)) c.if-a.true

not_one : (c : goal.After-with_sign-then-a-2) → eq (size_of c.args.x) one ≡ false
not_one c = rw (← (c.abs-a.ensures.value ∙ abs_size c.args.x)) c.if-a.false

not_one_2 : (c : goal.Else-a-2) → eq (size_of c.args.x) one ≡ false
not_one_2 c = rw (← (c.abs-a.ensures.value ∙ abs_size c.args.x)) c.if-a.false

within : (c : goal.After-with_sign-then-a-2) → beyond_one (size_of c.args.x) ≡ false
within c = below_one_within _ (rw (← (c.abs-a.ensures.value ∙ abs_size c.args.x)) c.if-a-2.true)

beyond : (c : goal.Else-a-2) → beyond_one (size_of c.args.x) ≡ true
beyond c = past_one_beyond _ (not_one_2 c) (rw (← (c.abs-a.ensures.value ∙ abs_size c.args.x)) c.if-a-2.false)

pub returns-then-x : goal.returns-then-x
unfolding f_erfinv
returns-then-x c = rw c.if-x.true

pub returns-then-a : goal.returns-then-a
unfolding f_erfinv with_sign div of_bits
returns-then-a c = rw (c.with_sign.ensures, c.if-x.false, at_one c)

pub erf_core_of-requires : goal.erf_core_of-requires
erf_core_of-requires c = c.if-a-2.true

pub returns-then-a-2 : goal.returns-then-a-2
unfolding f_erfinv
returns-then-a-2 c =
    rw (
      c.with_sign-then-a-2.ensures,
      c.erf_core_of.ensures,
      (c.abs-a.ensures.value ∙ abs_size c.args.x),
      c.if-x.false,
      not_one c,
      within c,
    )

pub returns : goal.returns
unfolding f_erfinv div of_bits
returns c = rw (c.if-x.false, not_one_2 c, beyond c)
