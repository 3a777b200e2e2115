-- `even_refusal` judges the last chance; of no chances there is none to refuse.
-- Assumes nothing.
use mathlib.Core.Path.{◌≡◌, refl}
use Prim.Native.Nat.{ℕ, ◌-◌, ◌≤◌, ◌<◌}
use mathlib.Core.List.{List, [], ◌∷◌}
use native.Mathlib.Omega.{arith}
use borrow.Author.Tests.{le-leb, lt-leb}
use lib.ListN.{length, get_or}
use Rattle.journal_spec.specs.Refusals.{even_refusal, unless}
use Rattle.journal_spec.specs.Record.{last_chance, even_chance}
use Rattle.journal_spec.specs.Append.{judge_even}
use Rattle.journal_spec.proofs.RefusalFrom.{last_at}
use Rattle.journal.proofs.offer.even_refusal.Goals as goal

beyond : (xs : List ℕ) → even_chance < get_or xs (length xs - 1) 0 → even_refusal ≡ judge_even xs
unfolding judge_even unless
beyond xs h = rw (last_at xs, lt-leb (get_or xs (length xs - 1) 0) even_chance h) refl

within : (xs : List ℕ) → get_or xs (length xs - 1) 0 ≤ even_chance → judge_even xs ≡ 0
unfolding judge_even unless
within xs h = rw (last_at xs, le-leb (get_or xs (length xs - 1) 0) even_chance h) refl

none : (xs : List ℕ) → length xs < 1 → judge_even xs ≡ 0
unfolding judge_even unless last_chance
none [] h = refl
none (x ∷ xs) h = absurd (omega arith)

pub returns-in-len1-up : goal.returns-in-len1-up
returns-in-len1-up c = let e = beyond _ c.if-last-gt-EVEN_CHANCE.true in (e, omega (arith, e))

pub returns-in_default : goal.returns-in_default
returns-in_default c = none _ c.in_default.len_below

pub returns-in_default-2 : goal.returns-in_default-2
returns-in_default-2 c = within _ c.if-last-gt-EVEN_CHANCE.false
