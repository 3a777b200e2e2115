-- A list of calls of append, each given the bytes and the length that the last one left.
-- Stated for any operations, so that a statement about them can be asked of others than the journal's own.
use Rattle.std.specs.Prelude.{◌≡◌, ℕ, max, List, [], ◌∷◌}
use Rattle.std.proofs.Math.Option.{Option, some}
use Rattle.journal_spec.specs.Record.{IsDay}
use Rattle.journal_spec.specs.Profile.{Rule}
use Rattle.journal_spec.specs.Scan.{ScanResult, scan_of}
use Rattle.journal_spec.specs.Read.{MarkResult, read_part, read_mark}
use Rattle.journal_spec.specs.Request.{Journal, Request, AppendResult, Outcome}
use Rattle.journal_spec.specs.Append.{append_of}

-- the operations that demand 3 speaks of
pub record Operations : Type 0 where
  pub append : Journal → Request → Outcome
  pub scan : Rule → List ℕ → ℕ → ScanResult
  pub read_part : Rule → List ℕ → ℕ → ℕ → List ℕ
  pub read_mark : Rule → List ℕ → ℕ → ℕ → MarkResult

-- the journal's own
unfoldable pub operations : Operations
operations = record { append = append_of; scan = scan_of; read_part = read_part; read_mark = read_mark }

-- A call of append. Its day is a u16, as the code's argument is; everything else that it is handed may be any number and is judged.
pub record Call : Type 0 where
  pub request : Request
  pub day_fits : IsDay request.day

-- the empty journal in a slice
unfoldable pub empty_in : List ℕ → Journal
empty_in slice = record { slice = slice; len = 0 }

-- what a call comes to
unfoldable pub perform : Operations → Journal → Call → Outcome
perform ops j c = ops.append j c.request

-- the journal after a list of calls
unfoldable pub journal_after : Operations → Journal → List Call → Journal
journal_after ops j [] = j
journal_after ops j (c ∷ cs) = journal_after ops (perform ops j c).journal cs

-- their answers
unfoldable pub answers_of : Operations → Journal → List Call → List AppendResult
answers_of ops j [] = []
answers_of ops j (c ∷ cs) = (perform ops j c).answer ∷ answers_of ops (perform ops j c).journal cs

-- the index's buffer after each, where one was handed
unfoldable pub indexes_of : Operations → Journal → List Call → List (Option (List ℕ))
indexes_of ops j [] = []
indexes_of ops j (c ∷ cs) = (perform ops j c).index ∷ indexes_of ops (perform ops j c).journal cs

-- the greatest length that the journal has before, between and after the calls
unfoldable pub reach_of : Operations → Journal → List Call → ℕ
reach_of ops j [] = j.len
reach_of ops j (c ∷ cs) = max j.len (reach_of ops (perform ops j c).journal cs)

-- each call is handed the index's buffer that the call before it left, the first one b
abbrev pub Threaded : Operations → Journal → List ℕ → List Call → Type 0
Threaded ops j b [] = Unit {0}
Threaded ops j b (c ∷ cs) =
    (c.request.index ≡ some b)
    × ((left : List ℕ) → (perform ops j c).index ≡ some left → Threaded ops (perform ops j c).journal left cs)
