-- The lowest chance that was overrun, of chances whose bytes stand one behind the other.
-- Assumes nothing.
use Rattle.std.specs.Prelude.{ℕ, zero, suc, ◌+◌, ◌*◌, ◌/◌, ◌≤◌, cond, List, length, slice_index, Option, None, Some}
use Rattle.journal_spec.specs.Bytes.{number_at}
use Rattle.journal_trial_spec.specs.Trial.{million, overruns}

-- up to eight chances, each below a million
pub record ChancesIn (b : List ℕ) : Type 0 where
  pub few : length b ≤ 32
  pub each : (j : ℕ) → 4 * j + 4 ≤ length b → number_at 4 (4 * j) b ≤ million

-- the first of `left` chances from the j-th on
unfoldable pub lowest_from : ℕ → List ℕ → List ℕ → ℕ → ℕ → Option ℕ
lowest_from links b overs zero j = None
lowest_from links b overs (suc left) j =
    cond (overruns links (number_at 4 (4 * j) b) (slice_index overs j)) (Some (number_at 4 (4 * j) b)) (lowest_from links b overs left (j + 1))

unfoldable pub lowest_in : ℕ → List ℕ → List ℕ → Option ℕ
lowest_in links b overs = lowest_from links b overs (length b / 4) 0
