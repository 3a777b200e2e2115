-- `by_profile` is its definition by the first letter; of no bytes the first counts as 0. Assumes nothing.
use Rattle.std.proofs.Common.{◌≡◌, ℕ, ◌<◌, List, [], ◌∷◌, length, refl, arith}
use Rattle.journal_spec.specs.Profile.{profile}
use Rattle.replay_cases.specs.Line.{rule_by}
use Rattle.replay_cases.proofs.line.by_profile.Goals as goal

empty : (s : List ℕ) → length s < 1 → profile ≡ rule_by s
unfolding rule_by
empty [] h = refl
empty (x ∷ xs) h = absurd (omega arith)

pub returns-in-empty : goal.returns-in-empty
returns-in-empty c = empty _ c.in-empty.len_below

pub returns-in-len1-up : goal.returns-in-len1-up
unfolding rule_by
returns-in-len1-up c = refl
