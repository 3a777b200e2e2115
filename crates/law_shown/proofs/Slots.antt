-- No slot is below the mean's tick: where x is at most y, both above zero, the whole number nearest to x is at most the least one not below y. It is at
-- most x + 1/2, and so less than 1 above the other. Assumes nothing.
use mathlib.Core.Path.{◌≡◌, refl, ap, ◌∙◌}
use mathlib.Core.Bool.{true, false}
use mathlib.Core.List.{List}
use Prim.Native.Nat.{ℕ, ◌+◌, ◌*◌, ◌/◌, ◌^◌, ◌≤◌, ◌<◌}
use native.Mathlib.Nat.{mul_assoc, mul_comm, mul_left_comm, mul-pos, mul-le-mul_right, add-mul, suc-mul, div-mul-le_self, lt_of_not-le, lt_of_lt_of_le}
use native.Mathlib.Decide.{dec_le}
use native.Mathlib.Omega.{arith}
use denote.Floats.{passes}
use lib.Dec.{T, lit<, le→leb}
use lib.Pow.{pow_pos}
use lib.ListN.{get_or}
use lib.Ieee.{Float, nan, inf, fin, le}
use lib.Ieee.Positive.{num, den, den_pos, positive, above, le→cross, positive_of_value, above_of_le}
use lib.Ieee.Scale.{finite}
use Rattle.limit.specs.Times.{times_in_range}
use Rattle.limit.specs.Sums.{sums_of}
use Rattle.limit.specs.Formula.{sample_form}
use Rattle.limit.specs.Limit.{chance_in_range}
use Rattle.limit.proofs.Plausible.{times_plausible}
use Rattle.law_bounds.proofs.Operations as operations
use Rattle.law_finite.specs.Finite.{max_limit}
use Rattle.law_finite.proofs.Formula.{form_within}
use Rattle.law_finite.proofs.Limits.{small_limits}
use Rattle.text_ticks.specs.Ticks.{ceiling, minus_of, near_size, up_size, counted, in_range, whole_by, ticks_up, ticks_near}
use Rattle.text_ticks.proofs.Division.{ceiling_over}
use Rattle.journal_spec.specs.Record.{Record, Last, even_chance}
use Rattle.journal_spec.specs.Request.{Request}
use Rattle.journal_spec.specs.Model.{Model}
use Rattle.journal_spec.specs.Ranges.{RecordRanges}
use Rattle.journal_spec.specs.Shown.{Takes}
use Rattle.law_order.specs.Order.{mean_at, limit_at}
use Rattle.law_order.proofs.Sides.{limit_side}
use Rattle.law_shown.proofs.Multiples.{in_range_lem}
use Rattle.law_shown.specs.Sides.{chance_in}
use Rattle.law_shown.specs.Slots.{SlotAbove, SlotsAbout, SlotsAbove}
use Rattle.law_shown.proofs.Sides as sides
use Rattle.law_shown.proofs.Sides.{in_chances, standing_limit, given_limit, taken_ranges}

-- ---- fractions

near_ceiling : (a c b d : ℕ) → 0 < c → 0 < d → a * d ≤ b * c → (2 * a + c) / (2 * c) ≤ ceiling b d
near_ceiling a c b d C D h = go (dec_le ((2 * a + c) / (2 * c)) (ceiling b d))
  where
    z : ℕ
    z = (2 * a + c) / (2 * c)

    w : ℕ
    w = ceiling b d

    twice : z * (2 * c) * d ≡ 2 * (z * (c * d))
    twice = mul_assoc z (2 * c) d ∙ ap (λ (k : ℕ). z * k) (mul_assoc 2 c d) ∙ mul_left_comm z 2 (c * d)

    sum : (2 * a + c) * d ≡ 2 * (a * d) + c * d
    sum = add-mul (2 * a) c d ∙ ap (λ (k : ℕ). k + c * d) (mul_assoc 2 a d)

    turned : w * d * c ≡ w * (c * d)
    turned = mul_assoc w d c ∙ ap (λ (k : ℕ). w * k) (mul_comm d c)

    none : (zp wp p ad bc : ℕ) → 0 < p → 2 * zp ≤ 2 * ad + p → ad ≤ bc → bc ≤ wp → wp + p ≤ zp → ⊥
    none zp wp p ad bc P i j k l = omega arith

    go : Dec (z ≤ w) → z ≤ w
    go (yes l) = l
    go (no l) =
        absurd
        (none (z * (c * d)) (w * (c * d)) (c * d) (a * d) (b * c) (mul-pos C D)
        (rw (twice, sum) at (mul-le-mul_right d (div-mul-le_self (2 * a + c) (2 * c)))) h
        (rw turned at (mul-le-mul_right c (ceiling_over b d D)))
        (omega (arith, suc-mul w (c * d), mul-le-mul_right (c * d) (lt_of_not-le l))))

-- ---- doubles above zero

plain : (x : Float) → T (positive x) → minus_of x ≡ false
plain nan p = absurd p
plain (inf s) p = absurd p
plain (fin true m e) p = absurd p
plain (fin false m e) p = refl

finite_above : (x : Float) → T (above x) → T (finite x) → T (positive x)
finite_above nan a f = absurd a
finite_above (inf s) a f = absurd f
finite_above (fin true m e) a f = absurd a
finite_above (fin false m e) a f = a

slot_of : (x y : Float) → T (positive x) → T (positive y) → in_range x ≡ true → in_range y ≡ true → T (le x y) → SlotAbove x y
unfolding ticks_near ticks_up whole_by near_size up_size
slot_of x y p q i j h =
    record {
      shown = counted (minus_of x) (near_size (minus_of x) (num x) (den x));
      slot = counted (minus_of y) (up_size (minus_of y) (num y) (den y));
      shown_is = rw i;
      slot_is = rw j;
      not_below =
          rw (plain x p, plain y q)
          (le→leb ((2 * num x + den x) / (2 * den x)) (ceiling (num y) (den y))
          (near_ceiling (num x) (den x) (num y) (den y) (den_pos x) (den_pos y) (le→cross x y p q h)));
    }

-- ---- mean and limit

module _ (form : ℕ) (ts : List ℕ) (c : ℕ) (t : times_in_range ts ≡ true) (h : chance_in_range c ≡ true) where
  mean_positive : T (positive (mean_at ts))
  unfolding sums_of
  mean_positive =
      let v = operations.counted (2 ^ 1073) (2 ^ 20 * 2 ^ 1074) (pow_pos 1073) (form_within (sums_of ts) (times_plausible ts t) form).mean_in in
      positive_of_value (mean_at ts) v.n (2 ^ 1074) v.val (lt_of_lt_of_le (pow_pos 1073) v.low)

  slot_above : c ≤ even_chance → SlotAbove (mean_at ts) (limit_at form ts c)
  slot_above e =
      let z = small_limits form ts c t h in
      let l = passes (le (mean_at ts) (limit_at form ts c)) ((limit_side form ts c t h).above e) in
      slot_of (mean_at ts) (limit_at form ts c) mean_positive
      (finite_above (limit_at form ts c) (above_of_le (mean_at ts) (limit_at form ts c) mean_positive l) z.limit.is_finite)
      (in_range_lem (mean_at ts) (2 ^ 20) (lit< tt) z.mean)
      (in_range_lem (limit_at form ts c) max_limit (lit< tt) z.limit) l

-- ---- records

-- Every record that may stand after the record `last`.
pub slots_about : (last : Last) (r : Record) → RecordRanges last r → SlotsAbout r
slots_about last r h =
    record {
      slots = λ i l b.
          rw (standing_limit last r h i l)
          (slot_above r.form r.times (chance_in r i) (sides.in_range_lem r.times h.times) (in_chances (chance_in r i) (h.chances.range i l)) b);
    }

-- The record of every request that is taken.
pub slots_above : (room : ℕ) (m : Model) (q : Request) (t : Takes room m q) → SlotsAbove t.content
slots_above room m q t =
    record {
      slots = λ i l.
          let k = taken_ranges room m q t i l in
          let c = get_or q.chances i 0 in
          rw (given_limit q t.content t.given i k.place)
          (slot_above sample_form t.content.times c (sides.in_range_lem t.content.times k.times) (in_chances c k.chance) k.even);
    }
