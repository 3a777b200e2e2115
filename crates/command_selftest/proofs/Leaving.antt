-- What an append leaves, compared with some bytes: its outcome has the slice. Assumes nothing.
use Prim.Native.Nat.{ℕ}
use mathlib.Core.Path.{◌≡◌}
use mathlib.Core.Bool.{Bool}
use mathlib.Core.List.{List}
use Rattle.text_digits.specs.Same.{same_bytes}
use Rattle.journal_spec.specs.Request.{Outcome}
use Rattle.std.specs.Prelude.{Result}
use Rattle.journal.specs.declared.AppendError.{AppendError}
use Rattle.journal.specs.Answers.{outcome_with, outcome_of}

pub leaves_same : (len : ℕ) (r : Result ℕ AppendError) (slice wanted : List ℕ) (o : Outcome) (b : Bool) → outcome_of len r slice ≡ o
    → b ≡ same_bytes slice wanted → b ≡ same_bytes o.journal.slice wanted
unfolding outcome_with
leaves_same len r slice wanted o b e h = rw (← e) h
