-- A merge that answers a length answers one that its buffer has room for.
-- Assumes nothing.
use mathlib.Core.Path.{◌≡◌, sym, ap}
use Prim.Native.Nat.{ℕ, ◌≤◌}
use mathlib.Core.List.{List}
use Rattle.std.specs.Prelude.{Result, Ok, Err, IfOk}
use native.Mathlib.Omega.{arith}
use lib.ListN.{length}
use Rattle.journal_spec.specs.Record.{Record, records_bytes}
use Rattle.journal_spec.specs.Append.{written}
use Rattle.journal_spec.specs.Cursor.{records_upto}
use Rattle.journal_spec.proofs.Placing.{written_length, lengths_are}
use Rattle.journal_merge_spec.specs.Records.{merged_of}
use Rattle.journal_merge_spec.specs.Merge.{MergeResult, merged, damaged, declined_of, declined_at, declined, MergeOutcome, merge_of}
use Rattle.journal_merge_spec.proofs.Answers.{answered}
use Rattle.journal_merge.specs.declared.MergeError.{MergeError}
use Rattle.journal_merge.specs.Answers.{answer_of, outcome_of}

-- how many bytes a result takes
unfoldable size_of : MergeResult → ℕ
size_of (merged n) = n
size_of (damaged w n p) = 0
size_of (declined_of w n) = 0
size_of (declined_at n p) = 0
size_of (declined n) = 0

module _ (a : List ℕ) (la : ℕ) (b : List ℕ) (lb : ℕ) (buffer : List ℕ) where
  length_fits : (n : ℕ) → (merge_of a la b lb buffer).answer ≡ merged n → n ≤ length (merge_of a la b lb buffer).buffer
  length_fits n h =
      let rs : List Record = merged_of (records_upto a la) (records_upto b lb) in
      let x = answered a la b lb buffer (merged n) h in
      let size : length (written buffer 0 (records_bytes rs)) ≡ length buffer =
      written_length buffer 0 (records_bytes rs) (omega (arith, x.0.4.0, lengths_are rs)) in
      omega (arith, x.0.0, x.0.4.0, size, ap (λ (o : MergeOutcome). length o.buffer) x.1)

  answer_fits : (x : MergeResult) → (merge_of a la b lb buffer).answer ≡ x → size_of x ≤ length (merge_of a la b lb buffer).buffer
  unfolding size_of
  answer_fits (merged n) h = length_fits n h
  answer_fits (damaged w n p) h = omega arith
  answer_fits (declined_of w n) h = omega arith
  answer_fits (declined_at n p) h = omega arith
  answer_fits (declined n) h = omega arith

  outcome_fits : (after : List ℕ) (r : Result ℕ MergeError) → outcome_of r after ≡ merge_of a la b lb buffer → size_of (answer_of r) ≤ length after
  unfolding outcome_of
  outcome_fits after r e =
      let k = answer_fits (answer_of r) (sym (ap (λ (o : MergeOutcome). o.answer) e)) in
      omega (arith, k, ap (λ (o : MergeOutcome). length o.buffer) e)

  pub size_fits : (after : List ℕ) (r : Result ℕ MergeError) → outcome_of r after ≡ merge_of a la b lb buffer → IfOk r (λ size. size ≤ length after)
  unfolding size_of answer_of
  size_fits after (Ok n) e = outcome_fits after (Ok n) e
  size_fits after (Err error) e = tt
