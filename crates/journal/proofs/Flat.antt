-- Times are all equal exactly if document 01's D, n × (sum of squares) - S × S, is 0: the case of equality of Cauchy and Schwarz.
-- Assumes nothing.
use mathlib.Core.Path.{◌≡◌, refl, sym, ap, ◌∙◌}
use Prim.Native.Nat.{ℕ, zero, suc, ◌+◌, ◌*◌}
use mathlib.Core.List.{List, [], ◌∷◌}
use mathlib.Core.Bool.{Bool, true, false}
use native.Mathlib.Omega.{arith}
use lib.ListN.{length}
use lib.Dec.{eqb}
use borrow.Author.Tests.{eq-eqb, ne_eqb, eqb-true}
use Rattle.facts.proofs.Tests.{both, first_of_lem, second_of_lem}
use Rattle.limit.specs.Times.{sum_of, squares_of}
use Rattle.limit.proofs.Cauchy.{twice_product, twice_sum, cauchy_schwarz}
use Rattle.journal_spec.specs.Read.{all_equal, are_equal}

-- ---- from D to the times

twice_equal : (a b : ℕ) → 2 * (a * b) ≡ a * a + b * b → a ≡ b
twice_equal zero zero h = refl
twice_equal zero (suc b) h = absurd (omega arith)
twice_equal (suc a) zero h = absurd (omega arith)
twice_equal (suc a) (suc b) h = ap suc (twice_equal a b (omega arith))

sum_equal : (ts : List ℕ) (x : ℕ) → 2 * (sum_of ts * x) ≡ squares_of ts + length ts * (x * x) → all_equal x ts ≡ true
unfolding sum_of squares_of all_equal
sum_equal [] x h = refl
sum_equal (t ∷ ts) x h =
    let this : t ≡ x = twice_equal t x (omega (arith, twice_product t x, twice_sum ts x)) in
    both (eq-eqb x t (sym this)) (sum_equal ts x (omega (arith, twice_product t x, twice_sum ts x)))

scatter_none : (ts : List ℕ) → length ts * squares_of ts ≡ sum_of ts * sum_of ts → are_equal ts ≡ true
unfolding sum_of squares_of are_equal
scatter_none [] h = refl
scatter_none (x ∷ ts) h = sum_equal ts x (omega (arith, cauchy_schwarz ts, twice_sum ts x))

-- ---- from the times to D

equal_sums : (ts : List ℕ) (x : ℕ) → all_equal x ts ≡ true → (sum_of ts ≡ length ts * x) × (squares_of ts ≡ length ts * (x * x))
unfolding sum_of squares_of all_equal
equal_sums [] x h = (omega arith, omega arith)
equal_sums (t ∷ ts) x h =
    let this : x ≡ t = eqb-true x t (first_of_lem (eqb x t) (all_equal x ts) h) in
    let rest = equal_sums ts x (second_of_lem (eqb x t) (all_equal x ts) h) in
    (omega (arith, rest.0), rw (← this, rest.1) (omega arith))

none_scatters : (ts : List ℕ) → are_equal ts ≡ true → length ts * squares_of ts ≡ sum_of ts * sum_of ts
unfolding sum_of squares_of are_equal
none_scatters [] h = omega arith
none_scatters (x ∷ ts) h = let s = equal_sums ts x h in rw (s.0, s.1) (omega arith)

-- the test on the sums is that of the times
pub flat_exactly : (ts : List ℕ) → eqb (length ts * squares_of ts) (sum_of ts * sum_of ts) ≡ are_equal ts
flat_exactly ts = go (are_equal ts) refl
  where
    go : (flat : Bool) → are_equal ts ≡ flat → eqb (length ts * squares_of ts) (sum_of ts * sum_of ts) ≡ flat
    go true e = eq-eqb _ _ (none_scatters ts e)
    go false e =
        ne_eqb _ _ (λ h. let z : true ≡ false = sym (scatter_none ts h) ∙ e in let n : ◌≡◌ {A = ℕ} 0 1 = cc in omega arith)
