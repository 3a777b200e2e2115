-- The limits of a record that may stand are the formula's, so each lies on its side of the mean; append takes no chance beyond even (document 02,
-- 2026-10), so no limit that it writes is below the mean. Assumes nothing.
use mathlib.Core.Path.{◌≡◌, refl, sym, ap, ◌∙◌}
use mathlib.Core.Bool.{true}
use mathlib.Core.List.{List, [], ◌∷◌, map}
use Prim.Native.Nat.{ℕ, zero, suc, ◌≤◌, ◌<◌}
use native.Mathlib.Omega.{arith}
use lib.ListN.{length, get_or}
use lib.Ieee.{binary64, of_bits, to_bits}
use lib.Ieee.Bits.{of_bits-to_bits}
use Rattle.limit.specs.Times.{times_in_range}
use Rattle.limit.specs.Formula.{sample_form}
use Rattle.limit.specs.Limit.{chance_in_range}
use Rattle.limit.proofs.InRange as range
use Rattle.journal_spec.specs.Record.{Record, Last, even_chance}
use Rattle.journal_spec.specs.Request.{Request}
use Rattle.journal_spec.specs.Model.{Model, worked_out}
use Rattle.journal_spec.specs.Ranges.{TimeRanges, RecordRanges}
use Rattle.journal_spec.specs.Shown.{Given, Takes}
use Rattle.journal_spec.proofs.Limits.{times_good_lem, formula_fits}
use Rattle.journal_spec.proofs.Ranged.{time_ranged}
use Rattle.law_order.specs.Order.{LimitSide, limit_at}
use Rattle.law_order.proofs.Sides.{limit_side}
use Rattle.law_shown.specs.Sides.{limit_in, chance_in, LimitsAbout, LimitsAbove}

pub in_range_lem : (ts : List ℕ) → TimeRanges ts → times_in_range ts ≡ true
in_range_lem ts t = sym (times_good_lem ts) ∙ (time_ranged ts).1 t

-- the limit worked out, by its bits
worked : (form : ℕ) (ts : List ℕ) (c : ℕ) → of_bits binary64 (to_bits binary64 (worked_out form ts c)) ≡ limit_at form ts c
unfolding worked_out
worked form ts c = of_bits-to_bits binary64 (worked_out form ts c) (formula_fits form ts c)

pub in_chances : (c : ℕ) → (1 ≤ c) × (c ≤ 999_999) → chance_in_range c ≡ true
unfolding chance_in_range
in_chances c h = range.inside 1 999_999 c h.0 h.1

side : (form : ℕ) (ts : List ℕ) (c : ℕ) → TimeRanges ts → (1 ≤ c) × (c ≤ 999_999) → LimitSide form ts c
side form ts c t h = limit_side form ts c (in_range_lem ts t) (in_chances c h)

-- a limit of a record that may stand is the formula's
pub standing_limit : (last : Last) (r : Record) → RecordRanges last r → (i : ℕ) → i < length r.chances
    → limit_in r i ≡ limit_at r.form r.times (chance_in r i)
standing_limit last r h i l = ap (of_bits binary64) (h.limits i l) ∙ worked r.form r.times (chance_in r i)

-- Every record that may stand after the record `last`.
pub standing_about : (last : Last) (r : Record) → RecordRanges last r → LimitsAbout r
standing_about last r h =
    record {
      above = λ i l b. rw (standing_limit last r h i l) ((side r.form r.times (chance_in r i) h.times (h.chances.range i l)).above b);
      below = λ i l b. rw (standing_limit last r h i l) ((side r.form r.times (chance_in r i) h.times (h.chances.range i l)).below b);
    }

-- the place i of a mapped list
map_at : (f : ℕ → ℕ) (xs : List ℕ) (i : ℕ) → i < length xs → get_or (map f xs) i 0 ≡ f (get_or xs i 0)
map_at f [] i l = absurd (omega arith)
map_at f (x ∷ xs) zero l = refl
map_at f (x ∷ xs) (suc i) l = map_at f xs i (omega arith)

-- a limit of the record given in a request is the sample form's
pub given_limit : (q : Request) (r : Record) → Given q r → (i : ℕ) → i < length q.chances
    → limit_in r i ≡ limit_at sample_form r.times (get_or q.chances i 0)
unfolding worked_out
given_limit q r g i l =
    ap (λ (ls : List ℕ). of_bits binary64 (get_or ls i 0)) g.limits
    ∙ ap (of_bits binary64) (map_at (λ (c : ℕ). to_bits binary64 (limit_at sample_form r.times c)) q.chances i l)
    ∙ worked sample_form r.times (get_or q.chances i 0)

-- what holds of a request that is taken, at the place i of its record's chances
pub record TakenRanges (q : Request) (r : Record) (i : ℕ) : Type 0 where
  pub place : i < length q.chances
  pub chance : (1 ≤ get_or q.chances i 0) × (get_or q.chances i 0 ≤ 999_999)
  pub even : get_or q.chances i 0 ≤ even_chance
  pub times : TimeRanges r.times

pub taken_ranges : (room : ℕ) (m : Model) (q : Request) (t : Takes room m q) (i : ℕ) → i < length t.content.chances → TakenRanges q t.content i
taken_ranges room m q t i l =
    let h = t.holds in
    let p = rw t.given.chances at l in
    record { place = p; chance = h.1.1.0.range i p; even = h.1.1.1.0 i p; times = h.1.1.1.1.0 }

-- The record of every request that is taken.
pub taken_above : (room : ℕ) (m : Model) (q : Request) (t : Takes room m q) → LimitsAbove t.content
taken_above room m q t =
    record {
      limits = λ i l.
          let k = taken_ranges room m q t i l in
          rw (given_limit q t.content t.given i k.place)
          ((side sample_form t.content.times (get_or q.chances i 0) k.times k.chance).above k.even);
    }
