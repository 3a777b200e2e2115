-- How many records a test holds of: counts that determine a list up to its sequence. Assumes nothing.
use mathlib.Core.Path.{◌≡◌, refl}
use Prim.Native.Nat.{ℕ, ◌+◌}
use mathlib.Core.List.{List, [], ◌∷◌, ◌++◌}
use mathlib.Core.Bool.{Bool, true, false, cond, not}
use native.Mathlib.Omega.{arith}
use lib.ListN.{length}
use Rattle.journal_spec.specs.Record.{Record}
use Rattle.journal_merge_spec.specs.Records.{select}

unfoldable pub tally : (Record → Bool) → List Record → ℕ
tally test [] = 0
tally test (r ∷ rs) = cond (test r) 1 0 + tally test rs

pub tally_append : (test : Record → Bool) (xs ys : List Record) → tally test (xs ++ ys) ≡ tally test xs + tally test ys
unfolding tally
tally_append test [] ys = omega arith
tally_append test (x ∷ xs) ys = rw (tally_append test xs ys) (omega arith)

-- each record of the list is counted by the test that always holds
pub tally_all : (rs : List Record) → tally (λ r. true) rs ≡ length rs
unfolding tally
tally_all [] = refl
tally_all (r ∷ rs) = rw (tally_all rs) (omega arith)

-- what a test selects and what it does not are the whole list
pub tally_select : (test choose : Record → Bool) (rs : List Record)
    → tally test (select (λ (r : Record). not (choose r)) rs) + tally test (select choose rs) ≡ tally test rs
unfolding tally select
tally_select test choose [] = refl
tally_select test choose (r ∷ rs) = go (tally_select test choose rs) (choose r) refl
  where
    go : tally test (select (λ (s : Record). not (choose s)) rs) + tally test (select choose rs) ≡ tally test rs → (b : Bool) → choose r ≡ b
        → tally test (cond (not (choose r)) (r ∷ []) [] ++ select (λ (s : Record). not (choose s)) rs)
        + tally test (cond (choose r) (r ∷ []) [] ++ select choose rs) ≡ cond (test r) 1 0 + tally test rs
    go h true e = rw e (omega arith)
    go h false e = rw e (omega arith)
