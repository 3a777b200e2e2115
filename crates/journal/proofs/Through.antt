-- An append through a log, by what reading the log came to: a line that is refused, or the times of the name.
-- Assumes nothing.
use mathlib.Core.Path.{◌≡◌, sym, ◌∙◌}
use Prim.Native.Nat.{ℕ}
use mathlib.Core.List.{List}
use Rattle.std.specs.Prelude.{Err}
use Rattle.refusals.specs.declared.Refusal.{Refusal}
use Rattle.refusals.specs.Refusals.{number_of}
use Rattle.journal_spec.specs.Log.{gathered, misread}
use Rattle.journal_spec.specs.Request.{Request, times_of, Outcome}
use Rattle.journal_spec.specs.Append.{unchanged, append_of}
use Rattle.journal_spec.proofs.Logs.{append_misread, handed_in, read_as_times}
use Rattle.journal.specs.Answers.{append_meaning, length_after, outcome_with}
use Rattle.journal.specs.declared.AppendError.TheVariants as A

module _ (v : List ℕ) (len : ℕ) (q : Request) where
  pub through_refused : (r : Refusal) (place : ℕ) → times_of q ≡ misread (number_of r) place
      → outcome_with len (Err (A.DeclinedAt (record { refusal = r; place = place }))) v q.index ≡ append_of (record { slice = v; len = len }) q
  unfolding outcome_with append_meaning length_after unchanged
  through_refused r place read = append_misread (record { slice = v; len = len }) q (number_of r) place read

  pub through_times : (ts : List ℕ) → times_of q ≡ gathered ts → (out : Outcome)
      → out ≡ append_of (record { slice = v; len = len }) (handed_in ts q) → out ≡ append_of (record { slice = v; len = len }) q
  through_times ts read out e = e ∙ sym (read_as_times (record { slice = v; len = len }) q ts read)
