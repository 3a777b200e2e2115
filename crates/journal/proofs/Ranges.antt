-- The code judges every field by one range. Each refusal of the record's definition is the refusal of a range, and of which.
-- Assumes nothing.
use mathlib.Core.Path.{◌≡◌, sym, ◌∙◌}
use Prim.Native.Nat.{ℕ, zero, suc, ◌≤◌, ◌<◌}
use mathlib.Core.List.{List}
use mathlib.Core.Bool.{◌&&◌}
use native.Mathlib.Omega.{arith}
use lib.Dec.{leb, ltb, eqb}
use borrow.Author.Tests.{le-leb, lt-leb, lt-ltb, le-ltb, eq-eqb, ne_eqb}
use Rattle.facts.proofs.Tests.{second_fails}
use Rattle.facts.proofs.Orders.{by_order}
use Rattle.limit.specs.Times.{in_range}
use Rattle.limit.specs.Limit.{max_chance, chance_in_range}
use Rattle.limit.specs.Answer.{chance_refusal}
use Rattle.limit.proofs.InRange as R
use Rattle.journal_spec.specs.Refusals.{unless, outside}
use Rattle.journal_spec.specs.Record.{last_chance, judge_chance}
use Rattle.journal_spec.proofs.Judging.{unless_true, unless_false, inside, below}

module _ (low high n x : ℕ) where
  pub above : high < x → outside low high n x ≡ n
  unfolding outside
  above h = unless_false (in_range low high x) n (R.above low high x h)

  -- where the number is at most `high`, the least alone decides
  pub least_decides : x ≤ high → unless (leb low x) n ≡ outside low high n x
  unfolding outside in_range
  least_decides h =
      by_order low x
      (λ k. unless_true (leb low x) n (le-leb low x k) ∙ sym (inside low high n x k h))
      (λ k. unless_false (leb low x) n (lt-leb low x k) ∙ sym (below low high n x k))

-- a number that is below the range or above it
pub not_inside : (low high n x : ℕ) → (low ≤ x → x ≤ high → ⊥) → outside low high n x ≡ n
not_inside low high n x h = by_order low x (λ k. above low high n x (by_order x high (λ l. absurd (h k l)) (λ l. l))) (λ k. below low high n x k)

-- one number and no other
pub one_alone : (k n x : ℕ) → unless (eqb x k) n ≡ outside k k n x
one_alone k n x =
    by_order x k
    (λ h. by_order k x
    (λ l. unless_true (eqb x k) n (eq-eqb x k (omega arith)) ∙ sym (inside k k n x l h))
    (λ l. unless_false (eqb x k) n (ne_eqb x k (λ e. omega arith)) ∙ sym (below k k n x l)))
    (λ h. unless_false (eqb x k) n (ne_eqb x k (λ e. omega arith)) ∙ sym (above k k n x h))

-- a range that holds no number
pub none_inside : (n x : ℕ) → n ≡ outside 1 0 n x
none_inside n zero = sym (below 1 0 n 0 (omega arith))
none_inside n (suc x) = sym (above 1 0 n (suc x) (omega arith))

-- a chance is in range and above the one before it: it is one of those from the next on
pub chance_agrees : (before : List ℕ) (c : ℕ) → judge_chance before c ≡ outside (suc (last_chance before)) max_chance chance_refusal c
unfolding judge_chance chance_in_range in_range unless
chance_agrees before c =
    by_order (suc (last_chance before)) c
    (λ h. by_order c max_chance
    (λ k. rw (le-leb 1 c (omega arith), le-leb c max_chance k, lt-ltb (last_chance before) c (omega arith))
    (sym (inside (suc (last_chance before)) max_chance chance_refusal c h k)))
    (λ k. rw (le-leb 1 c (omega arith), lt-leb c max_chance k) (sym (above (suc (last_chance before)) max_chance chance_refusal c k))))
    (λ h.
    unless_false _ chance_refusal (second_fails (leb 1 c && leb c max_chance) (ltb (last_chance before) c) (le-ltb (last_chance before) c (omega arith)))
    ∙ sym (below (suc (last_chance before)) max_chance chance_refusal c h))
