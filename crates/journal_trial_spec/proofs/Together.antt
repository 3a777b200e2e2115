-- Both calls answer a place of what all positions of the index come to: `try_all` says of a log everything that they say.
-- Assumes nothing.
use mathlib.Core.Path.{◌≡◌, refl}
use Prim.Native.Nat.{ℕ, zero, suc}
use mathlib.Core.List.{List, [], ◌∷◌, map}
use lib.ListN.{get_or}
use Rattle.journal_spec.specs.Refusals.{absent_refusal}
use Rattle.journal_spec.specs.Profile.{plain}
use Rattle.journal_spec.specs.Record.{Record}
use Rattle.journal_spec.specs.Scan.{records_of, contents_of}
use Rattle.journal_spec.specs.Index.{IndexEntry, index_of}
use Rattle.journal_spec.specs.Indexed.{last_named, standing_at}
use Rattle.journal_trial_spec.specs.Links.{Link, log_of}
use Rattle.journal_trial_spec.specs.Trial.{declined, Ready, ready, refused, ready_of, untried, trial_at, entry_trial, try_entry}
use Rattle.journal_trial_spec.specs.Trial.{unknown_count, try_unknown, all_trials, try_all, position_of, others_of}

-- the answers in the index's order
answers_at : (rs : List Record) (es : List IndexEntry) (ls : List Link) (i : ℕ)
    → trial_at (standing_at rs es i) ls
    ≡ get_or (map (λ (e : IndexEntry). trial_at (last_named e.name rs) ls) es) i (untried (declined absent_refusal))
unfolding standing_at trial_at
answers_at rs [] ls i = refl
answers_at rs (e ∷ es) ls zero = refl
answers_at rs (e ∷ es) ls (suc i) = answers_at rs es ls i

entry_by : (r : Ready) (i : ℕ) → entry_trial r i ≡ position_of (all_trials r) i
unfolding entry_trial all_trials position_of
entry_by (ready ls ps) i = answers_at (records_of ps) (index_of ps) ls i
entry_by (refused r) i = refl

unknown_by_lem : (r : Ready) → unknown_count r ≡ others_of (all_trials r)
unfolding unknown_count all_trials others_of
unknown_by_lem (ready ls ps) = refl
unknown_by_lem (refused r) = refl

module _ (log slice : List ℕ) (len : ℕ) (index : List ℕ) where
  -- the call for one entry
  pub entry_is_place : (i : ℕ) → try_entry log slice len index i ≡ position_of (try_all log slice len index) i
  unfolding try_entry try_all
  entry_is_place i = entry_by (ready_of (log_of log) (contents_of plain slice len) index) i

  -- the call for unknown names
  pub unknown_is_rest : try_unknown log slice len index ≡ others_of (try_all log slice len index)
  unfolding try_unknown try_all
  unknown_is_rest = unknown_by_lem (ready_of (log_of log) (contents_of plain slice len) index)
