-- What the pass over a journal answers, by what the journal holds: how many records stand, the committed length, the last record's form
-- and day, and what is asked of record i.
use Rattle.std.specs.Prelude.{ℕ, zero, suc, ◌-◌, List, [], ◌∷◌, Bool, cond, length, eqb, Option, Some, None, Result, Ok, Err}
use Rattle.journal_spec.specs.Record.{Last, last_of}
use Rattle.journal_spec.specs.Profile.{Rule}
use Rattle.journal_spec.specs.Scan.{Placed, records_of, standing, faulty, contents_from, ScanResult, whole, torn, damaged}
use Rattle.journal_spec.specs.Scan as Scan
use Rattle.journal_spec.specs.Read.{are_equal}
use Rattle.journal.specs.declared.Part.{Part}
use Rattle.journal.specs.declared.record.Head.{Head}
use Rattle.journal.specs.declared.record.Entry.{Entry}
use Rattle.journal.specs.declared.contents.Shown.{Shown}
use Rattle.journal.specs.declared.contents.Contents.{Contents}
use Rattle.journal.specs.Told.{Numbered}

-- the last record, as the code holds it
unfoldable pub head_of : Last → Head
head_of l = record { form = l.form; day = l.day }

-- what is asked of a record in its place
unfoldable pub shown_of : Placed → Shown
shown_of p = record {
  start = p.start;
  size = p.size;
  flat = are_equal p.content.times;
  times = length p.content.times;
}

-- what is asked of the i-th of some records, where there is one
unfoldable pub shown_at : List Placed → ℕ → Option Shown
shown_at [] i = None
shown_at (p ∷ ps) zero = Some (shown_of p)
shown_at (p ∷ ps) (suc i) = shown_at ps i

-- the same after one record more, by whether that is the i-th
unfoldable pub shown_next : Option Shown → Bool → ℕ → Entry → Option Shown
shown_next shown this at e =
    cond this (Some (record { start = at; size = e.next - at; flat = e.flat; times = e.times })) shown

-- the answer, with a fault by its number
unfoldable pub contents_read : ℕ → Scan.Contents → Result Contents Numbered
contents_read i (standing ps committed) = Ok (record {
  records = length ps;
  committed = committed;
  last = head_of (last_of (records_of ps));
  shown = shown_at ps i;
})
contents_read i (faulty n p) = Err (record { number = n; place = p })

-- the answer for a journal that takes all of its bytes, by a rule
unfoldable pub records_read : ℕ → Rule → List ℕ → Result Contents Numbered
records_read i rule b = contents_read i (contents_from rule (length b) [] 0 b)

-- scan's answer for a journal of a length, by what the pass answered
unfoldable pub status_read : ℕ → Result Contents Numbered → ScanResult
status_read len (Ok c) = cond (eqb c.committed len) (whole c.records c.committed) (torn c.records c.committed)
status_read len (Err f) = damaged f.number f.place

-- where the i-th of some records stands, where there is one
unfoldable pub place_at : List Placed → ℕ → Option Part
place_at [] i = None
place_at (p ∷ ps) zero = Some (record { start = p.start; size = p.size })
place_at (p ∷ ps) (suc i) = place_at ps i

-- the same by what the journal holds: nowhere in one that is damaged
unfoldable pub place_read : ℕ → Scan.Contents → Option Part
place_read i (standing ps committed) = place_at ps i
place_read i (faulty n p) = None
