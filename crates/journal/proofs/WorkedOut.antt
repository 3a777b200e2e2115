-- The limits of an offer from the front: each is worked out from mean and spread, and its bits kept beside those before it.
-- Of times in range they are append's own limits. Assumes nothing.
use mathlib.Core.Path.{◌≡◌, refl, sym, ap, ap₂, ◌∙◌}
use Prim.Native.Nat.{ℕ, ◌+◌, ◌≤◌, ◌<◌}
use mathlib.Core.Bool.{true}
use mathlib.Core.List.{List, [], ◌∷◌, ◌++◌, map-append}
use native.Mathlib.Omega.{arith}
use Rattle.std.specs.Prelude.{Result, Ok, Err}
use Rattle.refusals.specs.declared.Refusal.{Refusal}
use native.Mathlib.Numerals.{add-one}
use lib.ListN.{length, take, get_or, set, length-set}
use lib.Seq.{take-suc, take-suc-set}
use lib.Ieee.{binary64, to_bits}
use Rattle.limit.specs.declared.Figures.{Figures}
use Rattle.limit.specs.declared.sums.Sums.{Sums}
use Rattle.limit.specs.Times.{times_in_range}
use Rattle.limit.specs.Sums.{sums_of}
use Rattle.limit.specs.Formula.{sample_form}
use Rattle.limit.specs.Answer.{LimitResult, meaning, MomentsResult}
use Rattle.limit.specs.Limit.{moments_of_sums, limit_of_moments}
use Rattle.limit.proofs.Agreement.{limit_of_moments_agrees}
use Rattle.journal_spec.specs.Record.{max_chances}
use Rattle.journal_spec.specs.Append.{limit_bits, limits_of}
use Rattle.journal.specs.Handed.{limits_from}

-- ---- one limit

module _ (a : Result Figures Refusal) (r : LimitResult) (is : meaning a ≡ r) where
  pub bits_given : (f : Figures) (b : ℕ) → a ≡ Ok f → b ≡ to_bits binary64 f.limit → b ≡ limit_bits r
  unfolding meaning limit_bits
  bits_given f b told e = e ∙ ap limit_bits (sym (ap meaning told) ∙ is)

  pub bits_none : (n : Refusal) → a ≡ Err n → 0 ≡ limit_bits r
  unfolding meaning limit_bits
  bits_none n told = ap limit_bits (sym (ap meaning told) ∙ is)

-- ---- all of them

-- the bits of the limits before the i-th stand first in `bits`
pub record LimitsKept (w : MomentsResult) (chances bits : List ℕ) (i : ℕ) : Type 0 where
  pub few : i ≤ length chances
  pub whole : length bits ≡ max_chances
  pub kept : take i bits ≡ limits_from w (take i chances)

module _ (w : MomentsResult) (chances bits : List ℕ) where
  pub kept_start : length bits ≡ max_chances → LimitsKept w chances bits 0
  unfolding limits_from
  kept_start e = record { few = omega arith; whole = e; kept = refl }

  module _ (i : ℕ) (g : LimitsKept w chances bits i) where
    pub kept_more : (b : ℕ) → i < length chances → length chances ≤ max_chances → b ≡ limit_bits (limit_of_moments w (get_or chances i 0))
        → LimitsKept w chances (set bits i b) (i + 1)
    unfolding limits_from
    kept_more b h k e = record {
      few = omega arith;
      whole = length-set bits i b ∙ g.whole;
      kept =
          let those : take (i + 1) (set bits i b) ≡ take i bits ++ b ∷ [] = rw add-one (take-suc-set bits i b (omega (arith, g.whole))) in
          those
          ∙ ap₂ (λ (y : List ℕ) (z : ℕ). y ++ z ∷ []) g.kept e
          ∙ sym (rw (add-one, take-suc chances i 0 h) (map-append _ (take i chances) (get_or chances i 0 ∷ [])));
    }

-- times in range have the limits that mean and spread of their sums give
pub limits_from_lem : (w : MomentsResult) (s : Sums) (times chances : List ℕ) → w ≡ moments_of_sums sample_form s → times_in_range times ≡ true
    → s ≡ sums_of times → limits_from w chances ≡ limits_of times chances
unfolding limits_from limits_of
limits_from_lem w s times [] m t e = refl
limits_from_lem w s times (c ∷ cs) m t e =
    let same : w ≡ moments_of_sums sample_form (sums_of times) = m ∙ ap (moments_of_sums sample_form) e in
    ap₂ (λ (x : ℕ) (xs : List ℕ). x ∷ xs)
    (ap limit_bits (ap (λ (x : MomentsResult). limit_of_moments x c) same ∙ sym (limit_of_moments_agrees sample_form times c t)))
    (limits_from_lem w s times cs m t e)
