-- `f_erfcinv`: the tests on bits are those of the definition on the value, by the laws of `FirstTests`: that a NaN is told apart first, since it has no
-- bits to look at, changes no answer. 0 / 0 and ±1 / 0 are computed to be the NaN and the infinities. The tests on the way are what the last two
-- calls require. Assumes nothing.
use Rattle.std.proofs.Common.{◌≡◌, false, cond, sym, ◌∙◌, rules}
use lib.Ieee.{of_bits, eq, lt, div, neg}
use Rattle.double_bits.proofs.Nans.{nan_only}
use Rattle.pxfm.specs.DoubleDouble.{one, two, to_f64}
use Rattle.pxfm.specs.Argument.{zero, tenth}
use Rattle.pxfm.specs.Inverfc.{inverfc_extra_small, central_of, f_erfcinv}
use Rattle.pxfm.proofs.Bits.{bits_below_two}
use Rattle.pxfm.proofs.FirstTests.{bits_zero, bits_not_zero, bits_two, bits_not_two, bits_outside}
use Rattle.pxfm.proofs.Answers.{nan_answer, zero_answer, two_answer, outside_answer, inside_answer}
use Rattle.pxfm.proofs.err.inverfc.f_erfcinv.Goals as goal

-- What each test showed, at the place behind it.
not_zero : (c : goal.Then-ix-ge4611686018427387904) → eq c.args.x zero ≡ false
not_zero c = bits_not_zero _ (search rules) c.if-ix-eq0.false

not_zero_2 : (c : goal.Then-x) → eq c.args.x zero ≡ false
not_zero_2 c = bits_not_zero _ (search rules) c.if-ix-eq0.false

not_zero_3 : (c : goal.After-to_f64) → eq c.args.x zero ≡ false
not_zero_3 c = bits_not_zero _ (search rules) c.if-ix-eq0.false

not_zero_4 : (c : goal.After-central) → eq c.args.x zero ≡ false
not_zero_4 c = bits_not_zero _ (search rules) c.if-ix-eq0.false

not_two : (c : goal.Then-ix-ge4611686018427387904) → eq c.args.x two ≡ false
not_two c = bits_not_two _ (search rules) c.if-ix-eq4611686018427387904.false

inside : (c : goal.Then-x)
    → let x = c.args.x in
    f_erfcinv x ≡ cond (eq x one) zero (cond (lt x tenth) (to_f64 (inverfc_extra_small x)) (central_of x))
inside c = inside_answer _ (search rules) (bits_below_two _ (search rules) c.if-ix-ge4611686018427387904.false) (not_zero_2 c)

inside_2 : (c : goal.After-to_f64)
    → let x = c.args.x in
    f_erfcinv x ≡ cond (eq x one) zero (cond (lt x tenth) (to_f64 (inverfc_extra_small x)) (central_of x))
inside_2 c = inside_answer _ (search rules) (bits_below_two _ (search rules) c.if-ix-ge4611686018427387904.false) (not_zero_3 c)

inside_3 : (c : goal.After-central)
    → let x = c.args.x in
    f_erfcinv x ≡ cond (eq x one) zero (cond (lt x tenth) (to_f64 (inverfc_extra_small x)) (central_of x))
inside_3 c = inside_answer _ (search rules) (bits_below_two _ (search rules) c.if-ix-ge4611686018427387904.false) (not_zero_4 c)

pub returns-then-is_nan : goal.returns-then-is_nan
unfolding div of_bits
returns-then-is_nan c = rw (nan_only c.args.x (sym c.is_nan.ensures.value ∙ c.if-is_nan.true), nan_answer)

pub returns-then-ix-eq0 : goal.returns-then-ix-eq0
unfolding div of_bits
returns-then-ix-eq0 c =
    rw (zero_answer _ (bits_zero _ (search rules) c.if-ix-eq0.true))

pub returns-then-ix-eq4611686018427387904 : goal.returns-then-ix-eq4611686018427387904
unfolding div of_bits neg
returns-then-ix-eq4611686018427387904 c = rw (two_answer _ (search rules) (bits_two _ (search rules) c.if-ix-eq4611686018427387904.true))

pub returns-then-ix-ge4611686018427387904 : goal.returns-then-ix-ge4611686018427387904
unfolding div of_bits
returns-then-ix-ge4611686018427387904 c =
    let z = not_zero c in
    let t = not_two c in
    rw (outside_answer _ z t (bits_outside _ (search rules) c.if-ix-ge4611686018427387904.true z t))

pub returns-then-x : goal.returns-then-x
returns-then-x c = rw (inside c, c.if-x.true)

pub returns-then-x-2 : goal.returns-then-x-2
returns-then-x-2 c = rw (inside_2 c, c.if-x.false, c.if-x-2.true, c.to_f64.ensures, c.inverfc_extra_small.ensures)

pub returns : goal.returns
returns c = rw (inside_3 c, c.if-x.false, c.if-x-2.false, c.central.ensures)
