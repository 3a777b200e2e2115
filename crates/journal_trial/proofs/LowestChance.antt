-- The lowest chance by its bytes: the turns of the loop, and that it is the one of the definition. Assumes nothing.
use Rattle.std.proofs.Common.{◌≡◌, ℕ, suc, ◌+◌, ◌-◌, ◌*◌, ◌/◌, ◌≤◌, Bool, cond, List, length, get_or, sym, refl, ap, ◌∙◌, arith, None, Some}
use Rattle.journal_spec.specs.Bytes.{number_at}
use Rattle.journal_parts.specs.Numbers.{number_in}
use Rattle.journal_parts.proofs.NumberStands.{number_stands}
use Rattle.journal_trial_spec.specs.Trial.{overruns}
use Rattle.journal_trial.specs.Lowest.{lowest_from, lowest_in}

-- the chance at a place
pub chance_is : (b : List ℕ) (j c : ℕ) → 4 * j + 4 ≤ length b → c ≡ number_in 4 (4 * j) b → c ≡ number_at 4 (4 * j) b
chance_is b j c h e = e ∙ number_stands 4 (4 * j) b (omega arith) h

module _ (links : ℕ) (b overs : List ℕ) where
  one_more : (j : ℕ) → 4 * j + 4 ≤ length b → length b / 4 - j ≡ suc (length b / 4 - (j + 1))
  one_more j h = omega arith

  turn_is : (j : ℕ) → 4 * j + 4 ≤ length b → (t : Bool) → overruns links (number_at 4 (4 * j) b) (get_or overs j 0) ≡ t
      → lowest_from links b overs (length b / 4 - j) j ≡ cond t (Some (number_at 4 (4 * j) b)) (lowest_from links b overs (length b / 4 - (j + 1)) (j + 1))
  unfolding lowest_from
  turn_is j h t e = rw (one_more j h) (rw e refl)

  -- what a turn is told
  pub lowest_turn : (j c : ℕ) (t : Bool) → 4 * j + 4 ≤ length b → c ≡ number_at 4 (4 * j) b → t ≡ overruns links c (get_or overs j 0)
      → lowest_from links b overs (length b / 4 - j) j ≡ cond t (Some c) (lowest_from links b overs (length b / 4 - (j + 1)) (j + 1))
  lowest_turn j c t h e f =
      turn_is j h t (ap (λ (d : ℕ). overruns links d (get_or overs j 0)) (sym e) ∙ sym f)
      ∙ ap (λ (d : ℕ). cond t (Some d) (lowest_from links b overs (length b / 4 - (j + 1)) (j + 1))) (sym e)

  pub lowest_ends : (j : ℕ) → length b / 4 ≤ j → lowest_from links b overs (length b / 4 - j) j ≡ None
  unfolding lowest_from
  lowest_ends j h = let z : length b / 4 - j ≡ 0 = omega arith in rw z refl

  pub lowest_start : lowest_in links b overs ≡ lowest_from links b overs (length b / 4 - 0) 0
  unfolding lowest_in
  lowest_start = let z : length b / 4 - 0 ≡ length b / 4 = omega arith in rw z refl
