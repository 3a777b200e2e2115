-- Rows of refusals and conditions with their numbers: where each row is the test of its condition, no row refuses exactly where all conditions
-- hold, and the first refusal is the number of the first that fails. Assumes nothing.
use mathlib.Core.Path.{◌≡◌, refl, sym, ◌∙◌}
use mathlib.Core.Logic.{◌⊎◌, inl, inr, ⊎_elim, ◌↔◌}
use Prim.Native.Nat.{ℕ, zero, suc, ◌<◌}
use mathlib.Core.List.{List, [], ◌∷◌}
use mathlib.Core.Bool.{Bool, true, false}
use native.Mathlib.Omega.{arith}
use Rattle.journal_spec.specs.Refusals.{unless, first_of}
use Rattle.journal_spec.specs.Ranges.{Asked, end, ask, AllHold, FirstNamed}
use Rattle.journal_spec.proofs.Judging.{unless_true, unless_false}

-- each row is the test of its condition, and refuses by its number
pub data Tests : List ℕ → Asked → Type 1 where
  ended : Tests [] end
  test : {a n : ℕ} {Holds : Type 0} {ns : List ℕ} {rows : Asked} (b : Bool) → a ≡ unless b (suc n) → (b ≡ true) ↔ Holds → Tests ns rows
      → Tests (a ∷ ns) (ask (suc n) Holds rows)

first_good : (n : ℕ) (ns : List ℕ) → n ≡ 0 → first_of (n ∷ ns) ≡ first_of ns
unfolding first_of
first_good n ns e = rw e refl

first_bad : (n m : ℕ) (ns : List ℕ) → n ≡ suc m → first_of (n ∷ ns) ≡ suc m
unfolding first_of
first_bad n m ns e = rw e refl

one_first : (b : Bool) → b ≡ false → b ≡ true → ⊥
one_first b e h = let z : ◌≡◌ {A = ℕ} 0 1 = let x : true ≡ false = sym h ∙ e in cc in omega arith

-- no row refuses exactly where all conditions hold
pub all_hold : {ns : List ℕ} {rows : Asked} → Tests ns rows → (first_of ns ≡ 0) ↔ AllHold rows
all_hold ended = (λ h. tt, λ h. unfold first_of in refl)
all_hold (test {a} {n} {Holds} {ns} {rows} b row exactly others) = by_test_lem b refl (all_hold others)
  where
    by_test_lem : (t : Bool) → b ≡ t → (first_of ns ≡ 0) ↔ AllHold rows → (first_of (a ∷ ns) ≡ 0) ↔ (Holds × AllHold rows)
    by_test_lem true e later =
        let same = first_good a ns (row ∙ unless_true b (suc n) e) in
        (λ h. (exactly.0 e, later.0 (sym same ∙ h)), λ h. same ∙ later.1 h.1)
    by_test_lem false e later =
        let same = first_bad a n ns (row ∙ unless_false b (suc n) e) in
        (λ h. absurd (omega (arith, same, h)), λ h. absurd (one_first b e (exactly.1 h.0)))

-- a number is the first refusal exactly where it is that of the first condition that fails
pub first_named : {ns : List ℕ} {rows : Asked} → Tests ns rows → (n : ℕ) → ((0 < n) × (first_of ns ≡ n)) ↔ FirstNamed rows n
first_named ended n = (λ h. unfold first_of in absurd (omega arith), λ h. absurd h)
first_named (test {a} {n = m} {Holds} {ns} {rows} b row exactly others) n = by_test_lem b refl (first_named others n)
  where
    by_test_lem : (t : Bool) → b ≡ t → ((0 < n) × (first_of ns ≡ n)) ↔ FirstNamed rows n
        → ((0 < n) × (first_of (a ∷ ns) ≡ n)) ↔ (((Holds → ⊥) × (n ≡ suc m)) ⊎ (Holds × FirstNamed rows n))
    by_test_lem true e later =
        let same = first_good a ns (row ∙ unless_true b (suc m) e) in (
          λ h. inr (exactly.0 e, later.0 (h.0, sym same ∙ h.1)),
          λ h. ⊎_elim (λ fails. absurd (fails.0 (exactly.0 e))) (λ l. ((later.1 l.1).0, same ∙ (later.1 l.1).1)) h,
        )
    by_test_lem false e later =
        let same = first_bad a m ns (row ∙ unless_false b (suc m) e) in (
          λ h. inl (λ holds. one_first b e (exactly.1 holds), sym h.1 ∙ same),
          λ h. ⊎_elim (λ fails. (omega (arith, fails.1), same ∙ sym fails.1)) (λ l. absurd (one_first b e (exactly.1 l.0))) h,
        )

-- a refusal is none exactly where all conditions hold, and else the number of the first that fails
pub record Refuses (n : ℕ) (rows : Asked) : Type 0 where
  pub none : (n ≡ 0) ↔ AllHold rows
  pub first : (m : ℕ) → ((0 < m) × (n ≡ m)) ↔ FirstNamed rows m

-- the first of such rows
pub rows_refuse : {ns : List ℕ} {rows : Asked} → Tests ns rows → Refuses (first_of ns) rows
rows_refuse t = record { none = all_hold t; first = first_named t }

only_row : (n : ℕ) → first_of (n ∷ []) ≡ n
unfolding first_of
only_row zero = refl
only_row (suc n) = refl

-- one row by itself
pub row_refuses : (b : Bool) (n : ℕ) (Holds : Type 0) → (b ≡ true) ↔ Holds → Refuses (unless b (suc n)) (ask (suc n) Holds end)
row_refuses b n Holds exactly =
    let t : Tests (unless b (suc n) ∷ []) (ask (suc n) Holds end) = test b refl exactly ended in
    rw only_row at (rows_refuse t)
