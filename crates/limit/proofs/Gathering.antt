-- The pass over the times: after i of them the sums are those of the first i, and each of these was in range.
-- The start, one step, and the three ways to end. Assumes nothing.
use mathlib.Core.Path.{◌≡◌, refl}
use mathlib.Core.Bool.{true, false}
use mathlib.Core.List.{List, [], ◌∷◌, ◌++◌}
use Prim.Native.Nat.{ℕ, zero, suc, ◌+◌, ◌≤◌, ◌<◌}
use native.Mathlib.Numerals.{add-one}
use native.Mathlib.Omega.{arith}
use lib.ListN.{length, get_or, take}
use lib.Seq.{take-suc, take_all, length-take-le}
use Rattle.facts.proofs.Tests.{second_fails}
use Rattle.limit.specs.declared.sums.Sums.{Sums}
use Rattle.std.specs.Prelude.{Ok, Err}
use Rattle.refusals.specs.declared.Refusal.TheVariants.{Times}
use Rattle.limit.specs.Times.{min_count, max_count, in_range, time_in_range, all_in_range, times_in_range, sum_of, squares_of}
use Rattle.limit.specs.Sums.{sums_of, no_times, add_time, gathered_meaning, gather_of}
use Rattle.limit.proofs.InRange.{at_most}
use Rattle.limit.proofs.Bounds.{time_at_most, all_append}
use Rattle.limit.proofs.Adding.{add_one_time}

pub record Gathering (times : List ℕ) (i : ℕ) (s : Sums) : Type 0 where
  pub counted : in_range min_count max_count (length times) ≡ true
  pub reached : i ≤ length times
  pub each : all_in_range (take i times) ≡ true
  pub sums : s ≡ sums_of (take i times)

one_outside : (ts : List ℕ) (i : ℕ) → i < length ts → time_in_range (get_or ts i 0) ≡ false → all_in_range ts ≡ false
unfolding all_in_range
one_outside [] i h e = absurd (omega arith)
one_outside (t ∷ ts) zero h e = rw e
one_outside (t ∷ ts) (suc i) h e = second_fails (time_in_range t) (all_in_range ts) (one_outside ts i (omega arith) e)

module _ (times : List ℕ) where
  pub gathering_start : in_range min_count max_count (length times) ≡ true → Gathering times 0 no_times
  unfolding no_times sums_of sum_of squares_of all_in_range
  gathering_start e = record { counted = e; reached = omega arith; each = refl; sums = refl }

  -- the count is out of range
  pub gathering_none : in_range min_count max_count (length times) ≡ false → gathered_meaning (Err Times) ≡ gather_of times
  unfolding gathered_meaning gather_of times_in_range
  gathering_none e = rw e

  module _ (i : ℕ) (s : Sums) (g : Gathering times i s) where
    pub gathering_step :
        i < length times → time_in_range (get_or times i 0) ≡ true → Gathering times (i + 1) (add_time s (get_or times i 0))
    gathering_step h e =
        let t = get_or times i 0 in
        let next : take (i + 1) times ≡ take i times ++ t ∷ [] = rw (add-one, take-suc times i 0) in
        let room : length (take i times) < max_count = omega (arith, length-take-le i times g.reached, at_most _ _ _ g.counted) in
        record {
          counted = g.counted;
          reached = omega arith;
          each = rw next (all_append (take i times) t g.each e);
          sums = rw (next, g.sums) (add_one_time (take i times) t g.each room (time_at_most t e));
        }

    -- the time at i is out of range
    pub gathering_stop : i < length times → time_in_range (get_or times i 0) ≡ false → gathered_meaning (Err Times) ≡ gather_of times
    unfolding gathered_meaning gather_of times_in_range
    gathering_stop h e = rw (g.counted, one_outside times i h e)

    -- every time was taken in
    pub gathering_end : length times ≤ i → gathered_meaning (Ok s) ≡ gather_of times
    unfolding gathered_meaning gather_of times_in_range
    gathering_end h =
        let whole = take_all i times h in
        let each : all_in_range times ≡ true = rw whole at g.each in
        let sums : s ≡ sums_of times = rw whole at g.sums in
        rw (g.counted, each, sums)
