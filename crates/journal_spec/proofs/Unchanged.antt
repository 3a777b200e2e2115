-- Document 02's 2026-10 declines chances beyond even in an append and changes no reading: whatever the bytes, the journal's reader holds of them
-- what the reader of before holds, and so do scan and both calls of reading. Assumes nothing.
use mathlib.Core.Path.{◌≡◌, refl}
use Prim.Native.Nat.{ℕ, zero, suc, ◌-◌}
use mathlib.Core.List.{List, [], ◌∷◌, ◌++◌}
use lib.ListN.{take}
use Rattle.limit.specs.Times.{in_range}
use Rattle.limit.specs.Limit.{chance_in_range}
use Rattle.journal_spec.specs.Refusals.{unless, outside}
use Rattle.journal_spec.specs.Reader.{Found, found, fault, short, run}
use Rattle.journal_spec.specs.Record.{Record, last_of, judge_chance, chance_section, record_reader}
use Rattle.journal_spec.specs.Stages.{time_stage, limit_stage}
use Rattle.journal_spec.specs.Profile.{plain, keeps}
use Rattle.journal_spec.specs.Scan.{Placed, records_of, contents_from, contents_of, scan_of}
use Rattle.journal_spec.specs.Read.{part_place, read_part, read_mark}
use Rattle.journal_spec.specs.Former.{held_from, held_by, wide_section, wide_reader, wide_contents, ReadsUnchanged}
use Rattle.journal_spec.proofs.Scanning.{at_found, at_fault, at_short}

-- the reader of before is today's
same_reader : wide_reader ≡ record_reader
unfolding wide_reader wide_section record_reader chance_section judge_chance chance_in_range in_range outside unless time_stage limit_stage
same_reader = refl

-- ---- what a journal holds under today's reader

module _ (more : ℕ) (later : (ps : List Placed) (at : ℕ) (bs : List ℕ) → contents_from plain more ps at bs ≡ held_from record_reader more ps at bs) where
  one_more : (ps : List Placed) (at : ℕ) (bs : List ℕ) (f : Found Record) → run (record_reader (last_of (records_of ps))) at bs ≡ f
      → contents_from plain (suc more) ps at bs ≡ held_from record_reader (suc more) ps at bs
  unfolding contents_from held_from
  one_more ps at bs (found r next rest) e =
      let own = at_found plain (last_of (records_of ps)) at bs r next rest e (unfold keeps in refl) in
      rw (own, contents_from) (rw (e, held_from) (later (ps ++ record { content = r; start = at; size = next - at } ∷ []) next rest))
  one_more ps at bs (fault n p) e = rw (at_fault plain (last_of (records_of ps)) at bs n p e, contents_from) (rw (e, held_from) refl)
  one_more ps at bs short e = rw (at_short plain (last_of (records_of ps)) at bs e, contents_from) (rw (e, held_from) refl)

own_from_lem : (more : ℕ) (ps : List Placed) (at : ℕ) (bs : List ℕ) → contents_from plain more ps at bs ≡ held_from record_reader more ps at bs
own_from_lem zero ps at bs = unfold contents_from held_from in refl
own_from_lem (suc more) ps at bs = one_more more (own_from_lem more) ps at bs (run (record_reader (last_of (records_of ps))) at bs) refl

-- ---- 2026-10

module _ (slice : List ℕ) (len : ℕ) where
  pub contents_unchanged : contents_of plain slice len ≡ wide_contents slice len
  unfolding contents_of wide_contents held_by
  contents_unchanged = rw (same_reader, own_from_lem len [] 0 (take len slice)) refl

  pub reading_unchanged : ReadsUnchanged slice len
  unfolding scan_of read_part part_place read_mark
  reading_unchanged = record {
    scan = rw contents_unchanged refl;
    part = λ i. rw contents_unchanged refl;
    mark = λ i. rw contents_unchanged refl;
  }
