-- A listing of which no record is left goes on with the line of the end state.
-- Assumes nothing.
use mathlib.Core.Path.{◌≡◌, refl}
use mathlib.Core.Bool.{false}
use mathlib.Core.List.{List}
use Prim.Native.Nat.{ℕ}
use Rattle.journal.specs.Answers.{meaning}
use Rattle.journal.specs.declared.Status.{Status}
use Rattle.journal_listing.specs.Listing.{state_line}
use Rattle.journal_listing.specs.Lines.{position_of, step, step_by}

pub state_text : (s : Status) (v : List ℕ)
    → (step (position_of (record { at = 0; left = 0; ended = false; status = s })) v).text ≡ state_line (meaning s)
unfolding position_of step step_by
state_text s v = refl
