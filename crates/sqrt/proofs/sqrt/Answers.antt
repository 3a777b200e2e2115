-- `sqrt` meets its contract: special operands, the exact root of the scaled significand, one rounding. Assumes nothing.
use Rattle.std.proofs.Common.{◌≡◌, ◌*◌, ◌^◌, true, T, sym, ap, ◌∙◌, subst, arith}
use lib.Ieee.{binary64, fits, lt, of_bits}
use Rattle.sqrt.specs.Sqrt.{round_sqrt}
use Rattle.sqrt.proofs.OneRounding.{round_sqrt_scaled}
use Rattle.sqrt.proofs.Special.{above_zero_plain, bits_pos, top_root, finite_root}
use Rattle.sqrt.proofs.sqrt.Goals as goal

-- the format holds an argument
held : (c : goal.Then-b-ge-INFINITY) → T (fits binary64 c.args.x)
held c = subst T (sym c.well_formed.0.1) tt

held_2 : (c : goal.Else-b-ge-INFINITY) → T (fits binary64 c.args.x)
held_2 c = subst T (sym c.well_formed.0.1) tt

held_3 : (c : goal.After-rounded) → T (fits binary64 c.args.x)
held_3 c = subst T (sym c.well_formed.0.1) tt

pub not_positive-requires : goal.not_positive-requires
not_positive-requires c = c.if-not-x.true

-- past the first test x is above zero
above : (c : goal.Else-not-x) → lt (of_bits binary64 0) c.args.x ≡ true
above c = c.if-not-x.false

above_2 : (c : goal.Then-b-ge-INFINITY) → lt (of_bits binary64 0) c.args.x ≡ true
above_2 c = c.if-not-x.false

above_3 : (c : goal.Else-b-ge-INFINITY) → lt (of_bits binary64 0) c.args.x ≡ true
above_3 c = c.if-not-x.false

above_4 : (c : goal.After-rounded) → lt (of_bits binary64 0) c.args.x ≡ true
above_4 c = c.if-not-x.false

pub float_to_bits-b : goal.float_to_bits-b
float_to_bits-b c = above_zero_plain c.args.x (above c)

pub returns-then-b-ge-INFINITY : goal.returns-then-b-ge-INFINITY
returns-then-b-ge-INFINITY c = top_root c.args.x (held c) (above_2 c) c.if-b-ge-INFINITY.true

pub scaled-n-requires : goal.scaled-n-requires
scaled-n-requires c = (bits_pos c.args.x (held_2 c) (above_3 c), c.if-b-ge-INFINITY.false)

pub returns : goal.returns
returns c =
    let n = c.scaled-n in
    let w = c.whole_root-w in
    let q = n.result.q in
    c.rounded.ensures
    ∙ round_sqrt_scaled binary64 (q * 2 ^ 54) w.result.root w.result.rest n.result.z w.ensures.rest (omega arith) w.ensures.s_ge
    w.ensures.s_lt
    ∙ ap (round_sqrt binary64) (sym n.ensures.same)
    ∙ sym (finite_root c.args.x (held_3 c) (above_4 c) c.if-b-ge-INFINITY.false)
