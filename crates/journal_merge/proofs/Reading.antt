-- What the counts of a record that stands at a place say, as the code reads them. Assumes nothing.
use mathlib.Core.Path.{◌≡◌, ap}
use Prim.Native.Nat.{ℕ, ◌+◌, ◌≤◌, ◌<◌}
use mathlib.Core.List.{List, [], ◌∷◌}
use native.Mathlib.Omega.{arith}
use lib.ListN.{length, take, drop}
use Rattle.std.proofs.lemmas.List.{take-take}
use Rattle.journal_spec.specs.Bytes.{value_of, number_at}
use Rattle.journal_spec.specs.Record.{Record}
use Rattle.journal_spec.specs.Scan.{max_length}
use Rattle.journal_spec.proofs.Cursor.{Cursor, cursor_some}
use Rattle.journal_parts.specs.Numbers.{number_in}
use Rattle.journal_parts.specs.Spans.{day_at}
use Rattle.journal_parts.specs.Front.{record_size}
use Rattle.journal_parts.proofs.NumberStands.{number_stands}
use Rattle.journal_parts.proofs.Parts.{Parts, cursor_parts}
use Rattle.journal_parts.proofs.Front.{front_size}
use Rattle.journal_merge.specs.Records.{Rest, AtRecord}

-- a number at the front of some bytes, by the first of them
pub front_number : (b : List ℕ) (at n : ℕ) → 2 ≤ n → number_at 2 0 (take n (drop at b)) ≡ number_at 2 at b
unfolding number_at
front_number b at n h = ap value_of (take-take 2 n (drop at b) h)

-- there is a record where there are bytes left
pub at_record : (b : List ℕ) (at : ℕ) (left : List Record) → Cursor b at left → length b ≤ max_length → at < length b → AtRecord b at
at_record b at [] c s h = absurd (cursor_some b at c h)
at_record b at (x ∷ xs) c s h = record { first = x; others = xs; cursor = c; short = s }

pub rest_record : (b : List ℕ) (at : ℕ) → Rest b at → at < length b → AtRecord b at
rest_record b at r h = at_record b at r.records r.cursor r.short h

module _ (b : List ℕ) (at : ℕ) (a : AtRecord b at) where
  abbrev read : Parts b at a.first
  read = cursor_parts b at a.first a.others a.cursor

  pub day_read : number_in 2 (at + 2) b ≡ day_at b at
  day_read = number_stands 2 (at + 2) b (omega arith) (omega (arith, read.inside, read.length'))

  -- where the record ends
  pub record Bounds : Type 0 where
    pub inside : at + record_size (drop at b) ≤ length b
    pub some : 0 < record_size (drop at b)
    pub short : length b ≤ max_length

  pub bounds : Bounds
  bounds =
      let size = front_size b at a.first a.others a.cursor in
      record {
        inside = omega (arith, read.inside, size);
        some = omega (arith, size, read.length');
        short = a.short;
      }
