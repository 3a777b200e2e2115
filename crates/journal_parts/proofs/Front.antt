-- Where a record stands at a place, the bytes from it on have its size and its name.
-- Assumes nothing.
use mathlib.Core.Path.{◌≡◌, sym, ap, ◌∙◌}
use Prim.Native.Nat.{ℕ, ◌-◌}
use mathlib.Core.List.{List, ◌∷◌}
use native.Mathlib.Nat.{zero-add}
use lib.ListN.{length, take, drop, length-drop}
use lib.Seq.{take-length}
use Rattle.journal_spec.specs.Record.{Record, record_bytes}
use Rattle.journal_spec.proofs.Cursor.{Cursor, cursor_front}
use Rattle.journal_parts.specs.Spans.{spans_at, part_of}
use Rattle.journal_parts.specs.Front.{record_size, record_name}
use Rattle.journal_parts.specs.declared.spans.Spans.{Spans}
use Rattle.journal_parts.proofs.Parts.{Parts, cursor_parts}

module _ (b : List ℕ) (at : ℕ) (r : Record) (rs : List Record) (c : Cursor b at (r ∷ rs)) where
  here : Parts (drop at b) 0 r
  here = cursor_parts (drop at b) 0 r rs (cursor_front b at r rs c)

  pub front_size : record_size (drop at b) ≡ length (record_bytes r)
  unfolding record_size
  front_size = here.next ∙ zero-add (length (record_bytes r))

  pub front_name : record_name (drop at b) ≡ r.name
  unfolding record_name spans_at
  front_name = ap (λ (s : Spans). part_of s.name (drop at b)) here.spans ∙ here.name

-- what code lends of a slice from a place on
pub from_place : (b : List ℕ) (at : ℕ) → take (length b - at) (drop at b) ≡ drop at b
from_place b at = ap (λ (n : ℕ). take n (drop at b)) (sym (length-drop at b)) ∙ take-length (drop at b)
