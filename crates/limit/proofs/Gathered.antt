-- What the answer of the pass says: sums are those of times in range, and a refusal is 6, of times that are not.
-- Assumes nothing.
use mathlib.Core.Path.{◌≡◌, refl, sym, ap, ◌∙◌}
use mathlib.Core.Bool.{Bool, true, false, cond}
use mathlib.Core.List.{List}
use Prim.Native.Nat.{ℕ}
use native.Mathlib.Omega.{arith}
use Rattle.std.specs.Prelude.{Result, Ok, Err}
use Rattle.refusals.specs.Refusals.{number_of}
use Rattle.refusals.specs.declared.Refusal.{Refusal}
use Rattle.limit.specs.declared.sums.Sums.{Sums}
use Rattle.limit.specs.Answer.{times_refusal}
use Rattle.limit.specs.Times.{times_in_range}
use Rattle.limit.specs.Sums.{gathered, refused, gathered_meaning, sums_of, gather_of}

pub record GatheredWithin (times : List ℕ) (s : Sums) : Type 0 where
  pub inside : times_in_range times ≡ true
  pub sums : s ≡ sums_of times

within_cases : (b : Bool) (x s : Sums) → gathered s ≡ cond b (gathered x) (refused times_refusal) → (b ≡ true) × (s ≡ x)
within_cases true x s e = (refl, cc)
within_cases false x s e = let z : ◌≡◌ {A = ℕ} 0 1 = cc in absurd (omega arith)

outside_cases : (b : Bool) (x : Sums) (n : ℕ) → refused n ≡ cond b (gathered x) (refused times_refusal) → (b ≡ false) × (n ≡ times_refusal)
outside_cases true x n e = cc
outside_cases false x n e = (refl, cc)

module _ (times : List ℕ) (g : Result Sums Refusal) (answer : gathered_meaning g ≡ gather_of times) where
  pub gathered_within : (s : Sums) → g ≡ Ok s → GatheredWithin times s
  unfolding gathered_meaning gather_of
  gathered_within s e =
      let w = within_cases (times_in_range times) (sums_of times) s (ap gathered_meaning (sym e) ∙ answer) in
      record { inside = w.0; sums = w.1 }

  pub gathered_outside : (r : Refusal) → g ≡ Err r → (times_in_range times ≡ false) × (number_of r ≡ times_refusal)
  unfolding gathered_meaning gather_of
  gathered_outside r e = outside_cases (times_in_range times) (sums_of times) (number_of r) (ap gathered_meaning (sym e) ∙ answer)
