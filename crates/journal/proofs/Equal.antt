-- What the loop that compares times with the first of them keeps.
-- Assumes nothing.
use mathlib.Core.Path.{◌≡◌, refl, sym, ap, ◌∙◌}
use Prim.Native.Nat.{ℕ, zero, suc, ◌+◌, ◌*◌, ◌≤◌, ◌<◌}
use mathlib.Core.List.{List}
use mathlib.Core.Bool.{true, false}
use native.Mathlib.Omega.{arith}
use lib.ListN.{length}
use borrow.Author.Tests.{eq-eqb, ne_eqb}
use Rattle.journal_spec.specs.Bytes.{number_at, numbers_in}
use Rattle.journal_spec.specs.Read.{all_equal, are_equal}
use Rattle.journal_parts.specs.Numbers.{number_in}
use Rattle.journal_parts.proofs.NumberStands.{number_stands}

pub length_numbers : (w n at : ℕ) (b : List ℕ) → length (numbers_in w n at b) ≡ n
unfolding numbers_in
length_numbers w zero at b = refl
length_numbers w (suc n) at b = ap suc (length_numbers w n (at + w) b)

-- all n numbers are equal if each of the `left` from p on is the first
pub record Comparing (b : List ℕ) (n first p left : ℕ) : Type 0 where
  pub inside : p + left * 4 ≤ length b
  pub same : are_equal (numbers_in 4 n 0 b) ≡ all_equal first (numbers_in 4 left p b)

module _ (b : List ℕ) (n first : ℕ) where
  pub comparing_start : n * 4 ≤ length b → first ≡ number_in 4 0 b → Comparing b n first 0 n
  unfolding are_equal all_equal numbers_in
  comparing_start h e = record { inside = omega arith; same = go n h }
    where
      go : (k : ℕ) → k * 4 ≤ length b → are_equal (numbers_in 4 k 0 b) ≡ all_equal first (numbers_in 4 k 0 b)
      go zero h = refl
      go (suc k) h =
          let x : first ≡ number_at 4 0 b = e ∙ number_stands 4 0 b (omega arith) (omega arith) in
          rw (← x, eq-eqb first first refl) refl

  module _ (p left : ℕ) (g : Comparing b n first p left) where
    pub comparing_turn : (x next more : ℕ) → next ≡ p + 4 → left ≡ suc more → x ≡ number_at 4 p b → x ≡ first → Comparing b n first next more
    unfolding all_equal numbers_in
    comparing_turn x next more on less e same =
        record { inside = omega (arith, g.inside); same = g.same ∙ rw (on, less, eq-eqb first (number_at 4 p b) (sym same ∙ e)) refl }

    pub comparing_differs : (x : ℕ) → 0 < left → x ≡ number_at 4 p b → (x ≡ first → ⊥) → are_equal (numbers_in 4 n 0 b) ≡ false
    unfolding all_equal numbers_in
    comparing_differs x pos e differs = g.same ∙ go left pos
      where
        go : (k : ℕ) → 0 < k → all_equal first (numbers_in 4 k p b) ≡ false
        go zero some = absurd (omega arith)
        go (suc k) some = rw (ne_eqb first (number_at 4 p b) (λ h. differs (e ∙ sym h))) refl

    pub comparing_end : left ≡ 0 → are_equal (numbers_in 4 n 0 b) ≡ true
    comparing_end z = g.same ∙ rw z (unfold all_equal numbers_in in refl)
