-- A journal without fault and its own index: it is read where it stands, and at each entry's start stands the last record of its name.
-- Assumes nothing.
use Rattle.std.proofs.Common.{◌≡◌, ℕ, ◌+◌, ◌<◌, List, ◌++◌, length, get_or, drop, refl, ap, ◌∙◌, arith, length-append, drop_at}
use mathlib.Core.Option.{some}
use Rattle.journal_spec.specs.Bytes.{AreBytes}
use Rattle.journal_spec.specs.Record.{Record, Last, record_bytes}
use Rattle.journal_spec.specs.Ranges.{RecordRanges}
use Rattle.journal_spec.specs.Profile.{plain}
use Rattle.journal_spec.specs.Scan.{Placed, records_of, standing, contents_of}
use Rattle.journal_spec.specs.Index.{IndexEntry, index_of}
use Rattle.journal_spec.specs.Indexed.{standing_at}
use Rattle.journal_spec.proofs.Standing.{no_entry}
use Rattle.journal_spec.proofs.StandingBytes.{standing_bytes, standing_there}
use Rattle.journal_parts.proofs.Parts.{Parts, parts_are}

module _ (v : List ℕ) (len : ℕ) (ps : List Placed) (committed : ℕ) (b : AreBytes v) (s : contents_of plain v len ≡ standing ps committed) where
  abbrev entries : List IndexEntry
  entries = index_of ps

  -- what stands at a position
  pub record RecordAt (i : ℕ) : Type 0 where
    pub shown : Record
    pub last : Last
    pub ranges : RecordRanges last shown
    pub here : Parts v (get_or entries i no_entry).start shown
    pub is : standing_at (records_of ps) entries i ≡ some shown
    pub named : shown.name ≡ (get_or entries i no_entry).name

  pub record_of : (i : ℕ) → i < length entries → RecordAt i
  record_of i h =
      let x = standing_bytes v len ps committed b s i h in
      let start : ℕ = (get_or entries i no_entry).start in
      let all : length v ≡ length x.front + length (record_bytes x.shown ++ x.back) =
      ap length x.bytes ∙ length-append x.front (record_bytes x.shown ++ x.back) in
      let there : drop start v ≡ record_bytes x.shown ++ x.back =
      ap (λ (k : ℕ). drop k v) x.place ∙ ap (drop (length x.front)) x.bytes
      ∙ drop_at x.front (record_bytes x.shown ++ x.back) (length x.front) refl in
      record {
        shown = x.shown;
        last = x.last;
        ranges = x.ranges;
        here = parts_are v start x.last x.shown x.back (omega (arith, x.place, all)) x.ranges there;
        is = standing_there v len ps committed b s i h;
        named = x.named;
      }
