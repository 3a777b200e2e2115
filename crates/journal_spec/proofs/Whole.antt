-- The bytes up to the committed length: the records that stand, end to end and nothing else, whatever follows them in the slice. Read alone they
-- are a whole journal of the same records in the same places. Assumes nothing.
use mathlib.Core.Path.{◌≡◌, sym, ap, ◌∙◌}
use Prim.Native.Nat.{ℕ, ◌+◌, ◌≤◌, min}
use mathlib.Core.List.{List, [], ◌++◌, append-nil}
use native.Mathlib.Omega.{arith}
use lib.ListN.{length, take, length-append}
use lib.Seq.{take_at, take-take, take-length, length-take-le}
use Rattle.journal_spec.specs.Bytes.{AreBytes}
use Rattle.journal_spec.specs.Record.{Record, records_bytes}
use Rattle.journal_spec.specs.Profile.{Rule, plain}
use Rattle.journal_spec.specs.Scan.{max_length, Placed, standing, contents_of}
use Rattle.journal_spec.specs.Cursor.{records_held, records_upto, records_in}
use Rattle.journal_spec.specs.Ranges.{AllRanges}
use Rattle.journal_spec.proofs.Scanning.{torn_none, plain_contents}
use Rattle.journal_spec.proofs.Places.{placed_from, records_of_placed}
use Rattle.journal_spec.proofs.Profiles.{rule_then_plain}
use Rattle.journal_spec.proofs.Explained.{holding}
use Rattle.journal_spec.proofs.Cursor.{Cursor, cursor_start, follow_good}

-- records end to end, and nothing else, up to a length of a slice
module _ (slice : List ℕ) (len : ℕ) (fits : len ≤ min (length slice) max_length) (rs : List Record) (bytes : take len slice ≡ records_bytes rs)
    (follow : AllRanges [] rs) where
  pub whole_length : len ≡ length (records_bytes rs)
  whole_length = sym (length-take-le len slice (omega arith)) ∙ ap length bytes

  pub whole_contents : contents_of plain slice len ≡ standing (placed_from 0 rs) len
  whole_contents =
      let all : records_bytes rs ++ [] ≡ records_bytes rs = append-nil (records_bytes rs) in
      plain_contents slice len rs [] (omega arith) (omega arith) (bytes ∙ sym all) (whole_length ∙ sym (ap length all)) follow (torn_none rs)
      ∙ ap (standing (placed_from 0 rs)) (sym whole_length)

  pub whole_records_lem : records_upto slice len ≡ rs
  unfolding records_upto records_held
  whole_records_lem = rw whole_contents (records_of_placed 0 rs)

-- bytes that are a whole journal
pub record WholeBytes (b : List ℕ) : Type 0 where
  pub cursor : Cursor b 0 (records_in b)
  pub follow : AllRanges [] (records_in b)
  pub short : length b ≤ max_length

-- what stands in a slice, by the bytes up to the committed length
pub record Committed (slice : List ℕ) (ps : List Placed) (committed : ℕ) : Type 0 where
  pub fits : committed ≤ length slice
  pub whole : WholeBytes (take committed slice)
  pub places : ps ≡ placed_from 0 (records_in (take committed slice))

pub committed_bytes : (rule : Rule) (slice : List ℕ) (len : ℕ) (ps : List Placed) (committed : ℕ) → AreBytes slice
    → contents_of rule slice len ≡ standing ps committed → Committed slice ps committed
unfolding records_in
committed_bytes rule slice len ps committed all e =
    let x = holding slice len ps committed all (rule_then_plain rule slice len ps committed e).0 in
    let size : len ≡ length (records_bytes x.records) + length x.tail =
    sym (length-take-le len slice x.fits) ∙ ap length x.bytes ∙ length-append (records_bytes x.records) x.tail in
    let inside : committed ≤ len = omega (arith, size, x.upto) in
    let b : List ℕ = take committed slice in
    let bytes : b ≡ records_bytes x.records =
    sym (take-take committed len slice inside) ∙ ap (take committed) x.bytes ∙ take_at (records_bytes x.records) x.tail committed (sym x.upto) in
    let n : length b ≡ committed = length-take-le committed slice (omega (arith, inside, x.fits)) in
    let records : records_upto b (length b) ≡ x.records =
    whole_records_lem b (length b) (omega (arith, n, inside, x.most)) x.records (take-length b ∙ bytes) x.follow in
    record {
      fits = omega (arith, inside, x.fits);
      whole = record {
        cursor = rw records (cursor_start b x.records bytes (follow_good [] x.records x.follow));
        follow = rw records x.follow;
        short = omega (arith, n, inside, x.most);
      };
      places = x.places ∙ ap (placed_from 0) (sym records);
    }
