-- The report by a journal's own index (document 02, 2026-08): at each position stands the last record of the name, so that the line that the index
-- leads to is the report's, and the lines one behind another are its text. Assumes nothing.
use mathlib.Core.Path.{◌≡◌, refl, sym, ap, ap₂, ◌∙◌}
use Prim.Native.Nat.{ℕ, zero, suc, ◌+◌, ◌<◌}
use mathlib.Core.Bool.{Bool, true}
use mathlib.Core.List.{List, [], ◌∷◌, ◌++◌, map}
use mathlib.Core.Option.{some}
use native.Mathlib.Omega.{arith}
use lib.ListN.{length, get_or}
use Rattle.facts.proofs.Orders.{by_order}
use Rattle.text_digits.specs.Text.{Put}
use Rattle.text_digits.proofs.Putting.{put_as}
use Rattle.journal_spec.specs.Bytes.{AreBytes, joined}
use Rattle.journal_spec.specs.Reader.{found}
use Rattle.journal_spec.specs.Record.{Record, record_bytes}
use Rattle.journal_spec.specs.Profile.{plain}
use Rattle.journal_spec.specs.Scan.{Placed, records_of, standing, contents_of}
use Rattle.journal_spec.specs.Index.{IndexEntry, index_bytes, in_front, index_of}
use Rattle.journal_spec.proofs.Numbers.{are_bytes}
use Rattle.journal_entries.specs.Entries.{entries_in}
use Rattle.journal_entries.proofs.Parsed.{index_read}
use Rattle.journal_entries.proofs.Fitting.{own_index_here}
use Rattle.journal_spec.specs.Indexed.{look_up, last_named, standing_at}
use Rattle.journal_spec.proofs.Standing.{no_entry, standing_beyond}
use Rattle.journal_spec.proofs.StandingBytes.{StandingBytes, last_bytes, standing_bytes, standing_there}
use Rattle.journal_parts.specs.Plain.{plain_record_at}
use Rattle.journal_parts.proofs.Parts.{record_there}
use Rattle.journal_report.specs.Slot.{slot_line, slot_of}
use Rattle.journal_report.specs.Report.{line_of, report_line, report_lines, lines_to, start_at_position, start_line, WritesLine}
use Rattle.journal_report.proofs.Positions.{position_beyond}

-- ---- the lines of positions

same_lines : (f g : ℕ → List ℕ) (n : ℕ) → ((k : ℕ) → f k ≡ g k) → lines_to f n ≡ lines_to g n
unfolding lines_to
same_lines f g zero h = refl
same_lines f g (suc n) h = ap₂ (λ (x y : List ℕ). x ++ y) (h 0) (same_lines (λ k. f (suc k)) (λ k. g (suc k)) n (λ k. h (suc k)))

standing_lines : (tabs : Bool) (w : ℕ) (asked : List ℕ) (rs : List Record) (es : List IndexEntry)
    → lines_to (λ (k : ℕ). line_of tabs w asked (standing_at rs es k)) (length es) ≡ joined (map (λ (e : IndexEntry). line_of tabs w asked (last_named e.name rs)) es)
unfolding lines_to standing_at joined
standing_lines tabs w asked rs [] = refl
standing_lines tabs w asked rs (e ∷ es) = ap (λ (l : List ℕ). line_of tabs w asked (last_named e.name rs) ++ l) (standing_lines tabs w asked rs es)

position_is : (es : List IndexEntry) (k : ℕ) → k < length es → start_at_position es k ≡ some (get_or es k no_entry).start
unfolding start_at_position
position_is [] k h = absurd (omega arith)
position_is (e ∷ es) zero h = refl
position_is (e ∷ es) (suc k) h = position_is es k (omega arith)

-- ---- a journal that stands, and its own index

module _ (v : List ℕ) (len : ℕ) (ps : List Placed) (committed : ℕ) (b : AreBytes v) (s : contents_of plain v len ≡ standing ps committed) where
  -- the record is read where its name's start is
  there : (name : List ℕ) (start : ℕ) (x : StandingBytes v len ps committed name start)
      → plain_record_at start v ≡ found x.shown (length x.front + length (record_bytes x.shown)) x.back
  there name start x = ap₂ plain_record_at x.place x.bytes ∙ record_there x.last x.shown x.front x.back x.ranges

  slot_is : (tabs : Bool) (w : ℕ) (asked : List ℕ) (name : List ℕ) (start : ℕ) (x : StandingBytes v len ps committed name start)
      → start_line tabs w asked v (some start) ≡ slot_line tabs w asked x.shown
  unfolding start_line slot_of
  slot_is tabs w asked name start x = rw (there name start x) refl

  module _ (tabs : Bool) (w : ℕ) (asked : List ℕ) where
    standing_line : (k : ℕ) → start_line tabs w asked v (start_at_position (index_of ps) k) ≡ line_of tabs w asked (standing_at (records_of ps) (index_of ps) k)
    unfolding line_of start_line
    standing_line k =
        by_order (length (index_of ps)) k
        (λ beyond. rw (← position_beyond (index_of ps) k beyond, standing_beyond (records_of ps) (index_of ps) k beyond) refl)
        (λ h.
        rw (position_is (index_of ps) k h, standing_there v len ps committed b s k h)
        (slot_is tabs w asked _ _ (standing_bytes v len ps committed b s k h)))

    -- what a buffer leads to that begins with the journal's index
    module _ (index : List ℕ) (own : in_front (index_bytes (index_of ps)) index ≡ true) where
      pub entries_own : entries_in index ≡ index_of ps
      entries_own = index_read index (index_of ps) (own_index_here v len ps committed b s index own)

      -- line k is that of the last standing record of the k-th name
      pub line_is : (k : ℕ) → start_line tabs w asked v (start_at_position (entries_in index) k) ≡ report_line tabs w asked (contents_of plain v len) k
      unfolding report_line
      line_is k = rw (s, entries_own) (standing_line k)

      -- the lines of all positions are the report's
      pub lines_joined : lines_to (λ (k : ℕ). start_line tabs w asked v (start_at_position (entries_in index) k)) (length (entries_in index))
          ≡ report_lines tabs w asked (contents_of plain v len)
      unfolding report_lines
      lines_joined =
          rw (s, entries_own)
          (same_lines _ _ (length (index_of ps)) standing_line ∙ standing_lines tabs w asked (records_of ps) (index_of ps))

-- so that a call which writes the line that the index leads to writes the report's
pub writes_line : (tabs : Bool) (w : ℕ) (asked v index : List ℕ) (k : ℕ) (out after : List ℕ) (r : ℕ) → ((i : ℕ) → get_or v i 0 < 256)
    → Put out 0 (start_line tabs w asked v (start_at_position (entries_in index) k)) after r → WritesLine tabs w asked v index k out after r
writes_line tabs w asked v index k out after r bytes p = record {
  any = p;
  own = λ len o.
      put_as out 0 _ _ after r (line_is v len o.records o.committed (are_bytes v bytes) o.stands tabs w asked index o.own k) p;
}

-- ---- a name looked up

-- the last record of the name stands at s
pub record LastAt (name v : List ℕ) (rs : List Record) (s : ℕ) : Type 0 where
  pub shown : Record
  pub next : ℕ
  pub rest : List ℕ
  pub last : last_named name rs ≡ some shown
  pub reads : plain_record_at s v ≡ found shown next rest

-- where the journal's index has a start for a name
pub named_is : (v : List ℕ) (len : ℕ) (ps : List Placed) (committed : ℕ) → AreBytes v → contents_of plain v len ≡ standing ps committed
    → (index : List ℕ) → in_front (index_bytes (index_of ps)) index ≡ true → (name : List ℕ) (s : ℕ) → look_up name (entries_in index) ≡ some s
    → LastAt name v (records_of ps) s
named_is v len ps committed b e index own name s h =
    let same = index_read index (index_of ps) (own_index_here v len ps committed b e index own) in
    let x = last_bytes v len ps committed b e name s (sym (ap (look_up name) same) ∙ h) in
    record {
      shown = x.shown;
      next = length x.front + length (record_bytes x.shown);
      rest = x.back;
      last = x.is;
      reads = there v len ps committed b e name s x;
    }
