-- Document 01's survey, in its words: what scan answers of the bytes of a slice up to a length. Records stand whole up to a place; there the bytes end,
-- or run out in the next record with no fault in the fields that stand, or that record has a refused field and every field before it is good.
-- Or the length is none, or a whole record breaks the rule. The law `scan_exactly` says that scan answers so.
use Rattle.std.specs.Prelude.{◌≡◌, ◌⊎◌, ℕ, ◌≤◌, ◌<◌, List, [], ◌∷◌, ◌++◌, length, take}
use Rattle.journal_spec.specs.Record.{Record, last_of, records_bytes}
use Rattle.journal_spec.specs.Profile.{Rule, plain}
use Rattle.journal_spec.specs.Scan.{ScanResult, whole, torn, damaged}
use Rattle.journal_spec.specs.Ranges.{Keeps, AllRanges}
use Rattle.journal_spec.specs.Fields.{record_fields, FieldRefused, RunsOut}

-- each record keeps the rule
abbrev pub AllKeep : Rule → List Record → Type 0
AllKeep rule [] = Unit {0}
AllKeep rule (r ∷ rs) = Keeps rule r × AllKeep rule rs

-- the bytes b up to a place are whole records, which may stand there and keep the rule
pub record Upto (rule : Rule) (b : List ℕ) (records : List Record) (start : ℕ) : Type 0 where
  pub inside : start ≤ length b
  pub bytes : take start b ≡ records_bytes records
  pub ranges : AllRanges [] records
  pub keep : AllKeep rule records

-- the length is neither beyond the slice nor 65,536
abbrev pub Fits : List ℕ → ℕ → Type 0
Fits slice len = (len ≤ length slice) × (len ≤ 65_536)

pub data Scanned (rule : Rule) (slice : List ℕ) (len : ℕ) : ScanResult → Type 1 where
  -- 1 at 0: the length is beyond the slice or 65,536
  too_long : (length slice < len) ⊎ (65_536 < len) → Scanned rule slice len (damaged 1 0)
  -- a field of the record behind some whole ones is refused
  refused_field : {records : List Record} {start n p : ℕ} → Fits slice len → Upto rule (take len slice) records start
      → FieldRefused (take len slice) (record_fields (last_of records)) start n p → Scanned rule slice len (damaged n p)
  -- 19 at its first byte: the first whole record that breaks the rule
  broken_rule : {records : List Record} (r : Record) {start next : ℕ} → Fits slice len → Upto rule (take len slice) records start
      → Upto plain (take len slice) (records ++ r ∷ []) next → (Keeps rule r → ⊥) → Scanned rule slice len (damaged 19 start)
  -- the bytes end behind a whole record, or there are none
  whole_records : {records : List Record} → Fits slice len → Upto rule (take len slice) records len → Scanned rule slice len (whole (length records) len)
  -- they end inside a record
  torn_record : {records : List Record} {start : ℕ} → Fits slice len → Upto rule (take len slice) records start → start < len
      → RunsOut (take len slice) (record_fields (last_of records)) start → Scanned rule slice len (torn (length records) start)
